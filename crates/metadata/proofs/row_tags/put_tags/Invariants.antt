-- The tags that are left, added to those so far, give what all give.
use Rattle.std.proofs.Common.{◌≡◌, drop, fold}
use Rattle.std.specs.BTreeSet.{insert_key}
use Rattle.system_keys.specs.ListedTags.{tag_cmp}
use Rattle.metadata.proofs.row_tags.put_tags.Given as goal

abbrev pub invariant-loop-tag : goal.invariant-loop-tag
invariant-loop-tag l = fold (insert_key tag_cmp) l.tags.keys (drop l.tag-index l.list) ≡ fold (insert_key tag_cmp) l.fn.tags.keys l.list
