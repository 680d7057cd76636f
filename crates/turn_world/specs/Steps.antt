-- What an event returns in a cluster, what a run of events does, and the refusals of a resolver that an
-- event can pass on.
use Rattle.std.specs.Prelude.{◌≡◌, ◌+◌, ◌<◌, ℕ, List, map, take, length, slice_get, Option, Some, None}
use Rattle.std.specs.Prelude.{Result, Ok, Err, IsOk}
use Rattle.system_keys.specs.AsSpecified.{IsAsSpecified}
use Rattle.model.specs.Configs.{version_limit}
use Rattle.model.specs.Numbers.{ProxyNumber}
use Rattle.model.specs.Records.{last_version}
use Rattle.model.specs.World as world
use Rattle.model.specs.World.{answers, world_after}
use Rattle.model.specs.Turns.{TurnCluster, answer_to_event}
use Rattle.turn_world.specs.declared.answer.Answer.{Answer}
use Rattle.turn_world.specs.declared.refusal.Refusal.{Refusal}
use Rattle.turn_world.specs.declared.refusal.Refusal.TheVariants as refusals
use Rattle.turn_world.specs.declared.stopped.Stopped.{Stopped}
use Rattle.state_memory.specs.declared.refusal.Refusal.{Refusal as Offered}
use Rattle.state_memory.specs.declared.refusal.Refusal.TheVariants as offered
use Rattle.turn_world.specs.Events.{event_answer_of, fault_of}

-- the result is the answer of the definition or its refusal; or it is out of memory, and then the
-- definition does not refuse the event
abbrev pub AnswersEvent : TurnCluster → world.Event → Result Answer Refusal → Type 0
AnswersEvent before event result =
    IsAsSpecified fault_of event_answer_of result (answer_to_event before event)

-- a batch of the proxy may get a record: the proxy is there, and a version is left
pub record MaySequence (now : TurnCluster) (p : ProxyNumber) : Type 0 where
  pub there : p < now.config.proxies
  pub limit : last_version now.world.history + now.config.step < version_limit

-- ---- a run of events

-- the definition's answer that a result is; out of memory is none
abbrev pub told_refusal : Option world.Refusal → Option world.Answer
told_refusal None = None
told_refusal (Some refusal) = Some (world.Refused refusal)

abbrev pub told_by : Result Answer Refusal → Option world.Answer
told_by (Ok answer) = Some (event_answer_of answer)
told_by (Err refusal) = told_refusal (fault_of refusal)

-- the cluster carried out all these events: each result is the definition's answer, and the world is
-- that after them
pub record HasCarriedOut
    (before after : TurnCluster) (events : List world.Event) (results : List (Result Answer Refusal)) :
    Type 0 where
  pub results_are :
      map told_by results
      ≡ map (λ (answer : world.Answer). Some answer) (answers before.config before.world events)
  pub after_is :
      after ≡ record before { world = world_after before.config before.world events }

-- the definition does not refuse the event with this number
abbrev pub IsNotRefused : TurnCluster → (number : ℕ) → List world.Event → Type 0
IsNotRefused now number events =
    (event : world.Event) × (slice_get events number ≡ Some event) × IsOk (answer_to_event now event)

-- the cluster stopped before one of these events: it carried out those before that one and no other,
-- and the one is the first, or one that the definition does not refuse
pub record HasStopped
    (before after : TurnCluster) (events : List world.Event) (stopped : Stopped) : Type 0 where
  pub within : stopped.carried_out < length events
  pub count : length stopped.answers.items ≡ stopped.carried_out
  pub carried_out :
      HasCarriedOut before after (take stopped.carried_out events) stopped.answers.items
  pub next : 0 < stopped.carried_out → IsNotRefused after stopped.carried_out events

-- ---- refusals of a resolver

-- the refusal is one that a request of a cluster can get: not outside the chain
abbrev pub IsOfTheWorld : Offered → Type 0
IsOfTheWorld (offered.OutsideChain version) = ⊥
IsOfTheWorld refusal = Unit {0}

-- it becomes this refusal of the cluster
abbrev pub passed_on : Offered → Option Refusal
passed_on offered.WrongResolver = Some refusals.WrongResolver
passed_on offered.NoSuchProxy = Some refusals.NoSuchProxy
passed_on (offered.OutsideChain version) = None
passed_on (offered.GivenUp acknowledged) = Some (refusals.GivenUp acknowledged)
passed_on (offered.Early version) = Some (refusals.Early version)
passed_on offered.OutOfMemory = Some refusals.OutOfMemory

abbrev pub IsPassedOn : Offered → Refusal → Type 0
IsPassedOn refusal result = passed_on refusal ≡ Some result
