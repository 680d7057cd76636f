-- What was served is served; fewer are held back. The column has what the resolver has judged.
use Rattle.std.proofs.Common.{◌≡◌, length}
use Rattle.workers.specs.Desks.{HasReached, KeepsServing}
use Rattle.workers.proofs.desk.Desk.offer_due.Given as goal

abbrev pub invariant-loop-place : goal.invariant-loop-place
invariant-loop-place g l = record {
  keeps : KeepsServing l.fn.self l.self;
  own : l.self.column.resolver ≡ l.guard.memory.number;
  reached : HasReached l.guard l.self;
}

abbrev pub decreases-loop-place : goal.decreases-loop-place
decreases-loop-place g l = length l.self.held
