use Rattle.std.proofs.Common.{codes, refl}
use Rattle.scripts.proofs.StreamObjectLemmas.{if_some_weaker}
use Rattle.turns_run.specs.Shapes.{finish_shape, move_event_shape, offer_shape, sequence_shape}
use Rattle.turns_run.proofs.EventLemmas.{named_field}
use Rattle.turns_run.proofs.event_streams.take_event.Goals as goal

pub returns-in-sequence : goal.returns-in-sequence
returns-in-sequence c =
    rw c.in-sequence.is (if_some_weaker c.take_sequence.result (λ event taken.
    named_field sequence_shape (codes "sequence") c.args.depth c.args.reader.now c.take_sequence.new.reader event (λ d. refl) taken) c.take_sequence.ensures)

pub returns-in-move : goal.returns-in-move
returns-in-move c =
    rw c.in-move.is (if_some_weaker c.take_move.result (λ event taken.
    named_field move_event_shape (codes "move") c.args.depth c.args.reader.now c.take_move.new.reader event (λ d. refl) taken) c.take_move.ensures)

pub returns-in-offer : goal.returns-in-offer
returns-in-offer c =
    rw c.in-offer.is (if_some_weaker c.take_offer.result (λ event taken.
    named_field offer_shape (codes "offer") c.args.depth c.args.reader.now c.take_offer.new.reader event (λ d. refl) taken) c.take_offer.ensures)

pub returns-in-finish : goal.returns-in-finish
returns-in-finish c =
    rw c.in-finish.is (if_some_weaker c.take_finish.result (λ event taken.
    named_field finish_shape (codes "finish") c.args.depth c.args.reader.now c.take_finish.new.reader event (λ d. refl) taken) c.take_finish.ensures)
