-- One more batch is answered.
use Rattle.std.proofs.lemmas.Option.{slice_get_read}
use Rattle.std.proofs.Common.{length, refl}
use Rattle.threads_lines.proofs.PartLemmas.{one_more_batch}
use Rattle.threads_lines.proofs.committer.Committer.commit_and_print_batches.Goals as goal

pub loop-place-preserved : goal.loop-place-preserved
loop-place-preserved g c =
    let l = c.loop-place in
    let at = slice_get_read c.args.batches.now (length c.args.batches.now) l.place c.index-batches-place.result refl c.loop-place-test.true c.index-batches-place.is in
    one_more_batch g.N.Naming.cells.config (length g.N.Naming.cells.records) c.args.self.now.number c.args.batches.now c.args.history.now l.history
    c.commit_and_print_batch.new.history l.place c.index-batches-place.result _ _ _ at l.invariant c.in_ok-commit_and_print_batch.ensures.line
