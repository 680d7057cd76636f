use Rattle.std.proofs.Common.{◌≡◌, ◌++◌, drop}
use Rattle.std.specs.List.{flat_map}
use Rattle.system_keys.specs.Rows.{tag_value}
use Rattle.system_keys.specs.ListedTags.{counted_tags}
use Rattle.system_keys.proofs.tag_rows.push_counted_tags.Given as goal

abbrev pub invariant-loop-tag : goal.invariant-loop-tag
invariant-loop-tag l = l.bytes.items ++ flat_map tag_value (drop l.tag-index l.tags) ≡ l.fn.bytes.items ++ counted_tags l.tags
