-- Each row so far fits.
use Rattle.std.proofs.Common.{◌≡◌, true}
use Rattle.std.specs.List.{list_all}
use Rattle.model.specs.Shares.{each_below}
use Rattle.model.specs.Finishing.{row_from, row_fits}
use Rattle.proxy_state.proofs.disagreements.rows_fit.Given as goal

abbrev pub invariant-loop-resolver : goal.invariant-loop-resolver
invariant-loop-resolver l = list_all (λ r. row_fits l.version l.count r (row_from l.replies l.place r)) (each_below l.resolver) ≡ true
