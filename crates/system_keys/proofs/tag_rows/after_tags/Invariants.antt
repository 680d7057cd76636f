use Rattle.std.proofs.Common.{◌≡◌, ◌-◌, None}
use Rattle.system_keys.proofs.ListedTagLaws.{rest_behind}
use Rattle.system_keys.proofs.tag_rows.after_tags.Given as goal

abbrev pub invariant-loop : goal.invariant-loop
invariant-loop l = rest_behind l.before (l.count - l.counter) l.rest ≡ rest_behind None l.count l.bytes
