-- What the sequencer keeps once it has carried out the moves of a script, and what records have then
-- (this project's profile).
use Rattle.std.specs.Prelude.{◌≡◌, ◌+◌, ◌<◌, ◌≤◌, ℕ, List, ◌++◌, All, map, take, slice_get, Some}
use Rattle.model.specs.Configs.{Config}
use Rattle.model.specs.Numbers.{Version}
use Rattle.model.specs.Records.{Record, last_version}
use Rattle.model.specs.declared.moves.Move.{Move}
use Rattle.agreed_ledger.specs.Sequencing.{SequencedView}
use Rattle.threads_lines.specs.declared.faults.RunFault.{RunFault}
use Rattle.threads_lines.specs.declared.faults.RunFault.TheVariants as faults
use Rattle.threads_scripts.specs.declared.script.UndatedMove.{UndatedMove}

-- a move of a script, with this date
abbrev pub dated : Version → UndatedMove → Move
dated date undated = record { range = undated.range; date = date; dest = undated.dest }

-- each record has the moves, and no others, each dated 1: they were made before the first version
abbrev pub AreAfterMoves : (moves : List UndatedMove) → (history : List Record) → Type 0
AreAfterMoves moves history = All (λ rec. rec.moves ≡ map (dated 1) moves) history

-- The moves were carried out: they follow the old ones, in order, each dated one above the last
-- version. The records are the old ones.
pub record HaveMoved (before : SequencedView) (moves : List UndatedMove) (after : SequencedView) :
    Type 0 where
  pub records : after.records ≡ before.records
  pub moves_are :
      after.moves ≡ before.moves ++ map (dated (last_version before.records + 1)) moves

-- how a run fails in which this move fails: with `OutOfMemory`, unless it goes to a resolver that is
-- not there
pub record IsFaultOfMove (config : Config) (failed : UndatedMove) (fault : RunFault) : Type 0 where
  pub missing : config.resolvers ≤ failed.dest → fault ≡ faults.Refused
  pub there : failed.dest < config.resolvers → fault ≡ faults.OutOfMemory

-- the moves before one that failed were carried out, and no other; the run fails as that one did
pub record StopsMoving
    (config : Config) (before : SequencedView) (moves : List UndatedMove) (after : SequencedView)
    (fault : RunFault) : Type 0 where
  pub place : ℕ
  pub failed : UndatedMove
  pub stands : slice_get moves place ≡ Some failed
  pub moved : HaveMoved before (take place moves) after
  pub fault_is : IsFaultOfMove config failed fault

-- the run fails as one of the moves does
abbrev pub IsFaultOfSome : Config → List UndatedMove → RunFault → Type 0
IsFaultOfSome config moves fault =
    (place : ℕ) × (failed : UndatedMove) × (slice_get moves place ≡ Some failed)
    × IsFaultOfMove config failed fault
