use Rattle.std.proofs.Common.{◌≡◌, ◌-◌, None}
use Rattle.std.specs.Option.{option_copied}
use Rattle.system_keys.specs.Rows.{ids_at}
use Rattle.system_keys.proofs.RowLaws.{rest_of}
use Rattle.system_keys.proofs.server_rows.after_ids.Given as goal

abbrev pub invariant-loop : goal.invariant-loop
invariant-loop l = rest_of (ids_at (l.count - l.counter) (option_copied l.before) l.rest) ≡ rest_of (ids_at l.count None l.bytes)
