-- The entries are gone over from the front of the key on, up to one that is not below it.
use Rattle.std.proofs.Common.{◌≡◌, ◌∙◌, ap, sym, subst, Some}
use Rattle.std.specs.BTreeMap.Range.{range_contains, entries_between}
use Rattle.std.specs.declared.ops.Bound.TheVariants.{Included, Unbounded}
use Rattle.model.specs.Metadata.{Entry, Entries, IsInOrder, entry_value}
use Rattle.model.proofs.Metadata.Entries.{filter_in_order}
use Rattle.metadata.proofs.KeyValues.{key_cmp, rest_in_order}
use Rattle.metadata.proofs.MapEntries.{from_front, passed_over, found_at, none_at}
use Rattle.metadata.proofs.entry_map.EntryMap.value_at.Goals as goal

pub loop-found-init : goal.loop-found-init
loop-found-init c =
    let is : c.into_iter-found-iterator.result ≡ entries_between key_cmp (Included c.front_of-front.result) Unbounded c.self.inside.values.entries = c.into_iter-found-iterator.ensures.into_iter_gives ∙ c.range-found-items.ensures.between tt in
    record {
      value =
          ap (λ (es : Entries). entry_value es c.args.key.now) is
          ∙ from_front c.self.inside.values.entries c.front_of-front.result c.args.key.now c.front_of-front.ensures.up_to
          ∙ ap (λ (es : Entries). entry_value es c.args.key.now) c.self.view_is;
      order =
          subst IsInOrder (sym is)
          (filter_in_order (λ (row : Entry). range_contains key_cmp (Included c.front_of-front.result) Unbounded row.0) c.self.inside.values.entries c.self.invariant);
    }

pub loop-found-preserved : goal.loop-found-preserved
loop-found-preserved c =
    let entry : Entry = (c.in-Some.found.now, c.in-Some.row.now) in
    record {
      value = passed_over entry c.next.new.self c.loop-found.found-iterator c.args.key.now _ c.in-Some.ensures.steps (sym c.compare_to.ensures ∙ c.in-Less.is) c.loop-found.invariant.value;
      order = rest_in_order entry c.next.new.self (subst IsInOrder c.in-Some.ensures.steps c.loop-found.invariant.order);
    }

pub returns-in-Equal : goal.returns-in-Equal
returns-in-Equal c =
    let entry : Entry = (c.in-Some.found.now, c.in-Some.row.now) in
    ap Some c.value.ensures
    ∙ found_at entry c.next.new.self c.loop-found.found-iterator c.args.key.now _ c.in-Some.ensures.steps (sym c.compare_to.ensures ∙ c.in-Equal.is) c.loop-found.invariant.value

pub returns-in-Greater : goal.returns-in-Greater
returns-in-Greater c =
    let entry : Entry = (c.in-Some.found.now, c.in-Some.row.now) in
    none_at entry c.next.new.self c.loop-found.found-iterator c.args.key.now _ c.in-Some.ensures.steps (sym c.compare_to.ensures ∙ c.in-Greater.is) c.loop-found.invariant.order c.loop-found.invariant.value
