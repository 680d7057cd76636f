use Rattle.std.proofs.Common.{◌≡◌, ◌-◌, ◌++◌}
use Rattle.system_keys.specs.ListedTags.{read_whole_tags}
use Rattle.system_keys.proofs.tag_rows.read_whole_tags.Given as goal

abbrev pub invariant-loop : goal.invariant-loop
invariant-loop l = l.tags.items ++ read_whole_tags (l.count - l.counter) l.rest ≡ read_whole_tags l.count l.bytes
