-- What was let go so far; fewer are held back. Nothing changes if none was.
use Rattle.std.proofs.Common.{◌≡◌, [], length}
use Rattle.std.specs.Prelude.{IsFalse, IsTrue}
use Rattle.workers.specs.Desks.{has_failed}
use Rattle.workers.proofs.desk.Desk.refuse_held_requests.Given as goal

abbrev pub invariant-loop-held : goal.invariant-loop-held
invariant-loop-held g l = record {
  column : l.self.column ≡ l.fn.self.column;
  closed : l.self.closed ≡ l.fn.self.closed;
  wanted : IsTrue l.fn.self.wanted → IsTrue l.self.wanted;
  failed : IsFalse (has_failed l.self) → IsFalse (has_failed l.fn.self);
  same : l.fn.self.held ≡ [] → l.self ≡ l.fn.self;
}

abbrev pub decreases-loop-held : goal.decreases-loop-held
decreases-loop-held g l = length l.self.held
