-- A batch that may get a record is not refused.
use Rattle.std.proofs.Common.{◌≡◌, sym, subst, rules}
use Rattle.std.specs.Prelude.{Err}
use Rattle.model.specs.World.{Sequence}
use Rattle.turn_world.specs.Steps.{AnswersEvent}
use Rattle.turn_world.specs.declared.refusal.Refusal.TheVariants as refusals
use Rattle.turn_world.proofs.SequencedBatches.{not_refused_now}
use Rattle.turn_world.proofs.world.TurnWorld.sequence.Goals as goal

pub returns-in_err-rec-clause-answer : goal.returns-in_err-rec-clause-answer
returns-in_err-rec-clause-answer c =
    let is : c.from_residual-in_err-rec.result ≡ Err refusals.OutOfMemory = search rules in
    subst (AnswersEvent c.args.self.now (Sequence c.args.proxy c.args.batch.now)) (sym is) (not_refused_now c.args.self.now c.args.proxy c.args.batch.now c.in_ok-check_sequence.ensures)
