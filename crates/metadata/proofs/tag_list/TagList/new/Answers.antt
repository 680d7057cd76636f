-- No tags are in order.
use Rattle.std.proofs.Common.{sym, subst, List}
use Rattle.std.specs.List.Sorted.{IsStrictlySortedBy}
use Rattle.system_keys.specs.declared.tag.Tag.{Tag}
use Rattle.system_keys.specs.ListedTags.{tag_cmp}
use Rattle.metadata.proofs.SortedTags.{none_sorted}
use Rattle.metadata.proofs.tag_list.TagList.new.Goals as goal

pub invariant_of-result : goal.invariant_of-result
invariant_of-result c = subst (λ (tags : List Tag). IsStrictlySortedBy tag_cmp tags) (sym c.new.ensures.items) none_sorted
