use Rattle.std.proofs.Common.{◌≡◌, ◌≤◌, ◌-◌, length}
use Rattle.scripts.specs.Devices.{AppendsBefore, saturating_add}
use Rattle.scripts.proofs.devices.write_all.Given as goal

abbrev pub invariant-loop-rest : goal.invariant-loop-rest
invariant-loop-rest g l =
    let written = g.T.Sink.written in
    let failed = g.T.Sink.failed in
    let writes = g.T.Sink.writes in
    record {
      split : AppendsBefore (written l.fn.sink) (written l.sink) l.bytes l.rest;
      no_failure : failed l.sink ≡ failed l.fn.sink;
      front : length l.rest ≤ length l.bytes;
      called : writes l.sink ≤ saturating_add (length l.bytes - length l.rest) (writes l.fn.sink);
    }

abbrev pub decreases-loop-rest : goal.decreases-loop-rest
decreases-loop-rest g l = length l.rest
