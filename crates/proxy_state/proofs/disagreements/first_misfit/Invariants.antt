-- Each place so far fits, and the last of them is of version `before`.
use Rattle.std.proofs.Common.{◌≡◌, ◌+◌, ◌*◌, ◌≤◌, [], filter, not}
use Rattle.model.specs.Shares.{each_below}
use Rattle.model.specs.Finishing.{place_fits}
use Rattle.proxy_state.proofs.disagreements.first_misfit.Given as goal

abbrev pub invariant-loop-place : goal.invariant-loop-place
invariant-loop-place l = record {
  fitting : filter (λ k. not (place_fits l.config l.version l.end l.replies k)) (each_below l.place) ≡ [];
  version : l.before ≡ l.version + l.place * l.config.step;
  within : l.before ≤ l.end;
}
