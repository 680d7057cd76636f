-- What was taken so far is what was taken before, and then perhaps more. What has failed stays so. While
-- it is not cut off, it may have taken all; once it is, an End is missing.
use Rattle.std.specs.Prelude.{◌<◌, IsFalse, IsTrue}
use Rattle.inboxes.specs.Sending.{ends_in}
use Rattle.workers.specs.Workers.{HasTakenMore, StaysFailed}
use Rattle.workers.proofs.worker.ResolverWorker.run.Given as goal

abbrev pub invariant-loop : goal.invariant-loop
invariant-loop g l = record {
  taken : HasTakenMore l.fn.self.taken l.worker.taken;
  stays : StaysFailed l.fn.self l.worker;
  missing : IsFalse l.fn.self.cut_off → IsTrue l.worker.cut_off
      → ends_in l.worker.taken.got < g.N.Naming.cells.config.proxies;
}
