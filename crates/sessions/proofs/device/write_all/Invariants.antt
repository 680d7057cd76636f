use Rattle.std.proofs.Common.{◌≡◌, ℕ, List, ◌++◌, length}
use Rattle.sessions.specs.Events.{WritesText}
use Rattle.sessions.proofs.device.write_all.Given as goal

abbrev pub invariant-loop-rest : goal.invariant-loop-rest
invariant-loop-rest g l =
    let view = g.T.Device.view in
    record {
      wrote : (front : List ℕ) × (front ++ l.rest ≡ l.bytes) × WritesText (view l.fn.device) (view l.device) front;
      unfailed : g.T.Device.failures l.device ≡ g.T.Device.failures l.fn.device;
    }

abbrev pub decreases-loop-rest : goal.decreases-loop-rest
decreases-loop-rest g l = length l.rest
