-- No resolver so far has a row at the place.
use Rattle.std.proofs.Common.{◌≡◌, true, not, is_some}
use Rattle.std.specs.List.{list_all}
use Rattle.model.specs.Shares.{each_below}
use Rattle.model.specs.Finishing.{row_from}
use Rattle.proxy_state.proofs.disagreements.no_rows_at.Given as goal

abbrev pub invariant-loop-resolver : goal.invariant-loop-resolver
invariant-loop-resolver l = list_all (λ r. not (is_some (row_from l.replies l.place r))) (each_below l.resolver) ≡ true
