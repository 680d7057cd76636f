-- The events, the answers and the refusals of the code, in the model's words; and the numbers and
-- names of refusals (this project's profile).
use Rattle.std.specs.Prelude.{ℕ, List, codes, Option, Some, None}
use Rattle.model.specs.World as world
use Rattle.state_memory.specs.declared.answer.Answer.TheVariants as offered
use Rattle.turn_world.specs.declared.event.Event.{Event}
use Rattle.turn_world.specs.declared.event.Event.TheVariants as events
use Rattle.turn_world.specs.declared.answer.Answer.{Answer}
use Rattle.turn_world.specs.declared.answer.Answer.TheVariants as answers
use Rattle.turn_world.specs.declared.refusal.Refusal.{Refusal}
use Rattle.turn_world.specs.declared.refusal.Refusal.TheVariants as refusals

-- the event, in the model's words
abbrev pub event_of : Event → world.Event
event_of (events.Sequence proxy batch) = world.Sequence proxy batch
event_of (events.Move range dest) = world.MoveRange range dest
event_of (events.Offer row resolver) = world.Offer row resolver
event_of (events.Finish proxy) = world.Finish proxy

-- the answer, in the model's words
abbrev pub event_answer_of : Answer → world.Answer
event_answer_of (answers.Sequenced row version) = world.Sequenced row version
event_answer_of (answers.Moved date) = world.Moved date
event_answer_of (answers.Offered (offered.Judged reply)) = world.Judged reply
event_answer_of (answers.Offered (offered.Again reply)) = world.Again reply
event_answer_of (answers.Finished finished) = world.FinishedBatch finished

-- which refusal of the model it is; `OutOfMemory` is none
abbrev pub fault_of : Refusal → Option world.Refusal
fault_of refusals.NoSuchResolver = Some world.NoSuchResolver
fault_of (refusals.Early version) = Some (world.Early version)
fault_of (refusals.GivenUp acknowledged) = Some (world.GivenUp acknowledged)
fault_of refusals.NoSuchProxy = Some world.NoSuchProxy
fault_of refusals.WrongResolver = Some world.WrongResolver
fault_of refusals.NoSuchRow = Some world.NoSuchRow
fault_of (refusals.OutOfTurn expected) = Some (world.OutOfTurn expected)
fault_of (refusals.MissingReply resolver) = Some (world.MissingReply resolver)
fault_of refusals.VersionsEnd = Some world.VersionsEnd
fault_of refusals.OutOfMemory = None

-- the number that is printed; `OutOfMemory` has none, and is never printed
abbrev pub refusal_number : Refusal → Option ℕ
refusal_number refusals.NoSuchResolver = Some 20
refusal_number (refusals.Early version) = Some 30
refusal_number (refusals.GivenUp acknowledged) = Some 31
refusal_number refusals.NoSuchProxy = Some 32
refusal_number refusals.WrongResolver = Some 33
refusal_number refusals.NoSuchRow = Some 35
refusal_number (refusals.OutOfTurn expected) = Some 42
refusal_number (refusals.MissingReply resolver) = Some 43
refusal_number refusals.VersionsEnd = Some 51
refusal_number refusals.OutOfMemory = None

abbrev pub refusal_name : Refusal → List ℕ
refusal_name refusals.NoSuchResolver = codes "NoSuchResolver"
refusal_name (refusals.Early version) = codes "Early"
refusal_name (refusals.GivenUp acknowledged) = codes "GivenUp"
refusal_name refusals.NoSuchProxy = codes "NoSuchProxy"
refusal_name refusals.WrongResolver = codes "WrongResolver"
refusal_name refusals.NoSuchRow = codes "NoSuchRow"
refusal_name (refusals.OutOfTurn expected) = codes "OutOfTurn"
refusal_name (refusals.MissingReply resolver) = codes "MissingReply"
refusal_name refusals.VersionsEnd = codes "VersionsEnd"
refusal_name refusals.OutOfMemory = codes "OutOfMemory"
