-- Tickets of batches that are sequenced one after another.
use Rattle.std.proofs.Common.{◌≡◌, ◌+◌, sym, ap, ap₂, ◌∙◌, List, [], ◌∷◌, ◌++◌, length, length-append, arith}
use Rattle.model.specs.declared.moves.Move.{Move}
use Rattle.model.specs.Records.{Record}
use Rattle.model.specs.World.{record_after}
use Rattle.agreed_ledger.specs.Sequencing.{TicketsContinue, BatchesHaveTheMoveBefore}

pub tickets_continue : TicketsContinue
tickets_continue config before between after p q batch next t u first second =
    record {
      row =
          let more : length between.records ≡ length before.records + 1 = ap length first.records ∙ length-append before.records (record_after config before.records before.moves p batch ∷ []) in
          omega (arith, first.row, second.row, more);
      records =
          second.told
          ∙ second.records
          ∙ ap₂ (λ (records : List Record) (moves : List Move). records ++ record_after config records moves q next ∷ []) (sym first.told) first.moves;
    }

pub batches_have_the_move_before : BatchesHaveTheMoveBefore
batches_have_the_move_before config before between after range dest date p batch t moved sequenced =
    sequenced.told
    ∙ sequenced.records
    ∙ ap₂ (λ (records : List Record) (moves : List Move). records ++ record_after config records moves p batch ∷ []) moved.records moved.moves
