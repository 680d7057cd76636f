-- What was taken so far is what was taken before, and then perhaps more. What has failed stays so. Where it
-- is cut off, an End is missing.
use Rattle.std.proofs.Common.{◌≡◌, ◌<◌, ◌⊎◌, subst, Bool}
use Rattle.std.specs.Prelude.{IsFalse, IsTrue, MatchBool}
use Rattle.workers.proofs.WorkerLemmas.{missing_next, stays_trans, taken_next}
use Rattle.workers.proofs.worker.ResolverWorker.run.Goals as goal

pub loop-preserved : goal.loop-preserved
loop-preserved g c =
    let went = subst (λ (b : Bool). MatchBool b ((c.loop.worker.proxies_left ≡ 0) ⊎ IsTrue c.loop.worker.cut_off) ((0 < c.loop.worker.proxies_left) × IsFalse c.loop.worker.cut_off))
    c.if-has_ended.false c.has_ended.ensures.ended in
    record {
      taken = taken_next c.args.self.taken c.loop.worker c.serve_next_message.new.self c.loop.invariant.taken c.serve_next_message.ensures.taken;
      stays = stays_trans c.args.self c.loop.worker c.serve_next_message.new.self c.loop.invariant.stays c.serve_next_message.ensures.stays;
      missing = λ whole cut. missing_next g.N.Naming.cells.config.proxies c.loop.worker c.serve_next_message.new.self c.serve_next_message.ensures.taken went c.has_ended.ensures.kept cut;
    }
