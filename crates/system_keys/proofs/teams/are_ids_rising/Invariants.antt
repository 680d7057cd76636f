use Rattle.std.proofs.Common.{◌≡◌, drop, None}
use Rattle.std.specs.Option.{option_copied}
use Rattle.system_keys.specs.Rows.{are_ids_rising}
use Rattle.system_keys.proofs.teams.are_ids_rising.Given as goal

abbrev pub invariant-loop-id : goal.invariant-loop-id
invariant-loop-id l = are_ids_rising (option_copied l.before) (drop l.id-index l.ids) ≡ are_ids_rising None l.ids
