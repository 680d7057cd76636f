-- A tag that is found is there already, and another goes to its place.
use Rattle.std.proofs.Common.{◌≡◌, ◌∙◌, ap, sym, subst, List}
use Rattle.std.specs.BTreeSet.{insert_key}
use Rattle.std.specs.List.Sorted.{IsStrictlySortedBy}
use Rattle.system_keys.specs.declared.tag.Tag.{Tag}
use Rattle.system_keys.specs.ListedTags.{tag_cmp}
use Rattle.metadata.proofs.SortedTags.{found_there, put_sorted, put_there}
use Rattle.metadata.proofs.tag_list.TagList.add.Goals as goal

-- the tags after the insertion
placed : (c : goal.In_ok-insert) → c.insert.new.self.items ≡ insert_key tag_cmp c.self.inside.tags.items c.args.tag
placed c =
    c.in_ok-insert.ensures.items
    ∙ put_there c.self.inside.tags.items c.as_slice.result.now c.in-Err.place c.args.tag c.as_slice.ensures.value c.self.invariant c.in-Err.ensures.bound c.in-Err.ensures.position

pub invariant_of-self : goal.invariant_of-self
invariant_of-self c = subst (λ (tags : List Tag). IsStrictlySortedBy tag_cmp tags) (sym (placed c)) (put_sorted c.self.inside.tags.items c.args.tag c.self.invariant)

pub returns-in_ok-insert : goal.returns-in_ok-insert
returns-in_ok-insert c = placed c ∙ ap (λ (tags : List Tag). insert_key tag_cmp tags c.args.tag) c.self.view_is

pub returns-in_default : goal.returns-in_default
returns-in_default c =
    sym (subst (λ (tags : List Tag). insert_key tag_cmp tags c.args.tag ≡ tags) c.self.view_is
    (found_there c.self.inside.tags.items c.as_slice.result.now c.in_default.field-0 c.args.tag c.as_slice.ensures.value c.self.invariant c.in_default.ensures.bound c.in_default.ensures.ok))
