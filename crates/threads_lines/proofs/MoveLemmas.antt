-- Moves that the sequencer carried out, one after another.
use Rattle.std.proofs.Common.{◌≡◌, ◌∙◌, ◌++◌, ◌+◌, ◌<◌, ◌≤◌, [], ◌∷◌, ℕ, List, sym, ap, refl, take, map, append_assoc}
use Rattle.std.specs.Prelude.{slice_get, Some, Result, Ok, Err, IfErr}
use Rattle.std.proofs.lemmas.List.{append-nil, map-append}
use Rattle.model.specs.Configs.{Config}
use Rattle.model.specs.Records.{Record, last_version}
use Rattle.model.specs.declared.moves.Move.{Move}
use Rattle.agreed_ledger.specs.Sequencing.{HasMoved, SequencedView}
use Rattle.agreed_ledger.specs.declared.refusal.Refusal.{Refusal}
use Rattle.agreed_ledger.specs.declared.refusal.Refusal.TheVariants as refusals
use Rattle.locked_resolvers.proofs.Lists.{take_next}
use Rattle.threads_lines.specs.Faults.{ledger_fault}
use Rattle.threads_lines.specs.Moves.{HaveMoved, IsFaultOfMove, IsFaultOfSome, StopsMoving, dated}
use Rattle.threads_lines.specs.declared.faults.RunFault.{RunFault}
use Rattle.threads_scripts.specs.declared.script.UndatedMove.{UndatedMove}

-- no move was carried out yet
pub no_move : (before : SequencedView) → HaveMoved before [] before
no_move before = record { records = refl; moves_are = sym (append-nil before.moves) }

-- a move was carried out
pub one_moved : (before after : SequencedView) (one : UndatedMove) (date : ℕ) → HasMoved before one.range one.dest after date → HaveMoved before (one ∷ []) after
one_moved before after one date moved = record {
  records = moved.records;
  moves_are = moved.moves ∙ ap (λ (d : ℕ). before.moves ++ dated d one ∷ []) moved.date_is;
}

-- one more move was carried out
pub one_more_moved : (before between after : SequencedView) (moves : List UndatedMove) (k : ℕ) (one : UndatedMove)
    → slice_get moves k ≡ Some one → HaveMoved before (take k moves) between → HaveMoved between (one ∷ []) after
    → HaveMoved before (take (k + 1) moves) after
one_more_moved before between after moves k one at earlier moved =
    let first = last_version before.records + 1 in
    let same : last_version between.records + 1 ≡ first = ap (λ (rs : List Record). last_version rs + 1) earlier.records in
    let last : map (dated first) (take (k + 1) moves) ≡ map (dated first) (take k moves) ++ dated first one ∷ [] =
    ap (map (dated first)) (take_next moves k one at) ∙ map-append (dated first) (take k moves) (one ∷ []) in
    record {
      records = moved.records ∙ earlier.records;
      moves_are = moved.moves_are
          ∙ ap (λ (ms : List Move). ms ++ dated (last_version between.records + 1) one ∷ []) earlier.moves_are
          ∙ ap (λ (d : ℕ). (before.moves ++ map (dated first) (take k moves)) ++ dated d one ∷ []) same
          ∙ append_assoc before.moves (map (dated first) (take k moves)) (dated first one ∷ [])
          ∙ ap (λ (ms : List Move). before.moves ++ ms) (sym last);
    }

-- how a run fails whose move the sequencer refused so
pub move_fault : (config : Config) (failed : UndatedMove) (refusal : Refusal)
    → (config.resolvers ≤ failed.dest → refusal ≡ refusals.NoSuchResolver) × (failed.dest < config.resolvers → refusal ≡ refusals.OutOfMemory)
    → IsFaultOfMove config failed (ledger_fault refusal)
move_fault config failed refusal cause = record {
  missing = λ at. ap ledger_fault (cause.0 at);
  there = λ at. ap ledger_fault (cause.1 at);
}

-- a run that stopped moving fails as one of the moves does
pub fault_of_some : {X : Type 0} (config : Config) (before after : SequencedView) (moves : List UndatedMove) (result : Result X RunFault)
    → IfErr result (StopsMoving config before moves after) → IfErr result (IsFaultOfSome config moves)
fault_of_some config before after moves (Ok x) stops = search
fault_of_some config before after moves (Err fault) stops = (stops.place, stops.failed, stops.stands, stops.fault_is)
