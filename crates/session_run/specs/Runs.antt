-- What a session over a source and a sink leaves (this project's profile).
use Rattle.std.specs.Prelude.{◌≡◌, ◌≢◌, ◌<◌, ◌↔◌, ◌++◌, ◌-◌, ◌^◌, ℕ, IfSome, List, None, Option}
use Rattle.std.specs.Io.KnownBytes.{Appends, Consumes, IsAtEnd}
use Rattle.model.specs.Serial.{IsSerial}
use Rattle.model.specs.Turns.{TurnCluster}
use Rattle.scripts.specs.Devices.{IsIncremented}
use Rattle.sessions.specs.Events.{Event, HasEnded, bytes_came, bytes_written}
use Rattle.sessions.specs.Sessions.{AnswersBeforeReads, AnswersKnown, IsAnsweredAtReads}
use Rattle.sessions.specs.Sessions.{IsAnswering, LeavesFailures, MatchesStatus, NeverAhead}
use Rattle.sessions.specs.declared.status.SessionStatus.{SessionStatus}
use Rattle.sessions.specs.declared.status.SessionStatus.TheVariants.{ReadFailed, WriteFailed}
use Rattle.session_run.specs.Session.{State, session_rules}

-- A session read and wrote these events, from the state without a cluster to the state `now`: before
-- each read exactly the answers to the lines that were whole by then had been written. What the source
-- has left and what the sink holds, where they are known, is by these events. (A source and a sink apart
-- keep no order of their calls: that is the contract of `answer_lines` over a device that has a history.) The
-- records of the cluster at the end obey the rule of commit.
pub record RunsSession
    (remaining_old remaining_new written_old written_new : Option (List ℕ)) (status : SessionStatus) :
    Type 0 where
  pub events : List Event
  pub now : State
  pub read : Consumes remaining_old remaining_new (bytes_came events)
  pub end : HasEnded events → IfSome remaining_old (λ _. IsAtEnd remaining_new)
  pub written : Appends written_old written_new (bytes_written events)
  pub in_turn : AnswersBeforeReads session_rules None events
  pub never_ahead : NeverAhead session_rules None events
  pub ends : MatchesStatus session_rules None events now status
  pub serial : IfSome now (λ (cluster : TurnCluster). IsSerial cluster.config cluster.world.history)

-- once it is done, each line of a known input was answered, in order
abbrev pub AnswersInput : Option (List ℕ) → Option (List ℕ) → Option (List ℕ) → SessionStatus → Type 0
AnswersInput input old new status =
    (now : State) × AnswersKnown session_rules None now input old new status

-- what a run read and wrote: wherever it read, the lines that were whole by then had been answered, and no more
-- was written
abbrev pub RunsInTurn : Type 0
RunsInTurn =
    (input rest old new : Option (List ℕ)) (status : SessionStatus) → RunsSession input rest old new status
    → (events : List Event) × Consumes input rest (bytes_came events) × Appends old new (bytes_written events)
    × IsAnsweredAtReads session_rules None events

-- at no moment a run had written more than a beginning of answers to the lines that had come whole
abbrev pub RunsNeverWriteAhead : Type 0
RunsNeverWriteAhead =
    (input rest old new : Option (List ℕ)) (status : SessionStatus) → RunsSession input rest old new status
    → (events : List Event) × Consumes input rest (bytes_came events) × Appends old new (bytes_written events)
    × ((after before : List Event) → events ≡ after ++ before → IsAnswering session_rules None before)

-- the records of the cluster that a run leaves, if it leaves one, obey the rule of commit
abbrev pub RunsLeaveSerial : Type 0
RunsLeaveSerial =
    (input rest old new : Option (List ℕ)) (status : SessionStatus) → RunsSession input rest old new status
    → (events : List Event) × (now : State) × MatchesStatus session_rules None events now status
    × IfSome now (λ (cluster : TurnCluster). IsSerial cluster.config cluster.world.history)

-- a run that is done has answered each line of a known input
abbrev pub RunsAnswerInput : Type 0
RunsAnswerInput =
    (input rest old new : Option (List ℕ)) (status : SessionStatus) → RunsSession input rest old new status
    → AnswersInput input old new status

-- a read failed, or a write, by the counts of failed reads and of failed writes
abbrev pub ReadFails : ℕ × ℕ → ℕ × ℕ → Type 0
ReadFails old new = IsIncremented old.0 new.0 × (new.1 ≡ old.1)

abbrev pub WriteFails : ℕ × ℕ → ℕ × ℕ → Type 0
WriteFails old new = (new.0 ≡ old.0) × IsIncremented old.1 new.1

-- of counts that can still rise: the status says whether a read failed, or a write
abbrev pub StatusTellsCounts : Type 0
StatusTellsCounts =
    (old new : ℕ × ℕ) (status : SessionStatus) → LeavesFailures ReadFails WriteFails old new status
    → old.0 < 2 ^ 64 - 1 → old.1 < 2 ^ 64 - 1
    → ((status ≡ ReadFailed) ↔ (new.0 ≢ old.0)) × ((status ≡ WriteFailed) ↔ (new.1 ≢ old.1))
