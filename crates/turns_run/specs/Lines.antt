-- The lines that are printed for the events of a turns script, by the answers to them (this
-- project's profile).
use Rattle.std.specs.Prelude.{ℕ, suc, List, [], ◌∷◌, ◌++◌, map, flat_map, filter, nat_eq, codes}
use Rattle.std.specs.Prelude.{Option, Some, None}
use Rattle.std.specs.Fmt.{decimal}
use Rattle.model.specs.Numbers.{Version, ProxyNumber, ResolverNumber, RowNumber}
use Rattle.model.specs.Numbers.{TransactionNumber}
use Rattle.model.specs.declared.outcome.Finished.{Finished}
use Rattle.model.specs.declared.outcome.Outcome.{Outcome}
use Rattle.model.specs.declared.outcome.Outcome.TheVariants as outcomes
use Rattle.model.specs.declared.outcome.PrivateCopy.{PrivateCopy}
use Rattle.model.specs.declared.outcome.Tagged.{Tagged}
use Rattle.model.specs.declared.reply.Reply.{Reply}
use Rattle.model.specs.World.{Event, Sequence, MoveRange, Offer, Finish, Answer}
use Rattle.model.specs.World.{Sequenced, Moved, Judged, Again, FinishedBatch, Refused}
use Rattle.model.specs.World as world
use Rattle.scripts.specs.Lines.{line, quoted, spaced, list_text, tag_text, tags_text}
use Rattle.scripts.specs.Lines.{number_or_none, refused_text}
use Rattle.scripts.specs.Names.{outcome_name, unseen_version, verdict_name}
use Rattle.turn_world.specs.Events.{refusal_number, refusal_name}
use Rattle.turn_world.specs.declared.refusal.Refusal.{Refusal}
use Rattle.turn_world.specs.declared.refusal.Refusal.TheVariants as refusals

-- ---- a batch gets its record, a range moves

abbrev pub sequence_text : RowNumber → Version → List ℕ
sequence_text row version =
    codes "sequence row " ++ decimal row ++ spaced (codes "version " ++ decimal version)

abbrev pub sequence_line : RowNumber → Version → List ℕ
sequence_line row version = line (sequence_text row version)

abbrev pub move_line : Version → List ℕ
move_line date = line (codes "move date " ++ decimal date)

-- ---- a resolver gets a request

-- the row of the record, and the resolver that gets the request for it
abbrev pub offered_text : RowNumber → ResolverNumber → List ℕ
offered_text row resolver =
    codes "offer row " ++ decimal row ++ spaced (codes "resolver " ++ decimal resolver)

-- a reply: `judged` or `again`, the verdicts on the share, and the versions of the unseen rows
abbrev pub offer_line : List ℕ → Reply → List ℕ
offer_line word reply =
    line (offered_text reply.row reply.resolver ++ spaced word
    ++ spaced (list_text (map verdict_name reply.verdicts))
    ++ spaced (codes "unseen " ++ list_text (map unseen_version reply.unseen)))

-- ---- a proxy finishes a record

abbrev pub finish_text : ProxyNumber → Version → List ℕ
finish_text p version =
    codes "finish proxy " ++ decimal p ++ spaced (codes "version " ++ decimal version)

abbrev pub finish_line : ProxyNumber → Version → List ℕ
finish_line p version = line (finish_text p version)

-- the numbers of an outcome: of a commit its version and its place, and otherwise the number of the error
-- in release 7.1 (`error_definitions.h`)
abbrev pub outcome_numbers : Outcome → List ℕ
outcome_numbers (outcomes.Committed version number) =
    spaced (decimal version) ++ spaced (decimal number)
outcome_numbers outcomes.Conflict = spaced (codes "1020")
outcome_numbers outcomes.TooOld = spaced (codes "1007")
outcome_numbers outcomes.Locked = spaced (codes "1038")

-- the outcome that the client learns
abbrev pub outcome_text : Outcome → List ℕ
outcome_text outcome = outcome_name outcome ++ outcome_numbers outcome

abbrev pub transaction_line : TransactionNumber → Outcome → List ℕ
transaction_line n outcome = line (codes "txn " ++ decimal n ++ spaced (outcome_text outcome))

abbrev pub mutation_line : Tagged → List ℕ
mutation_line tagged =
    line (codes "mutation " ++ decimal tagged.number ++ spaced (decimal tagged.place)
    ++ codes " tags " ++ tags_text tagged.tags)

-- the private copy of the mutation at this place of transaction n: its key between quotes, and the
-- tag
abbrev pub copy_line : TransactionNumber → (place : ℕ) → PrivateCopy → List ℕ
copy_line n place copy =
    line (codes "private " ++ decimal n ++ spaced (decimal place)
    ++ spaced (quoted copy.key) ++ spaced (tag_text copy.tag))

-- its line, if it has one
abbrev pub private_text : TransactionNumber → (place : ℕ) → Option PrivateCopy → List ℕ
private_text n place None = []
private_text n place (Some copy) = copy_line n place copy

-- a mutation, and after it its private copy
abbrev pub mutation_text : Tagged → List ℕ
mutation_text tagged =
    mutation_line tagged ++ private_text tagged.number tagged.place tagged.private

-- the mutations of transaction n
abbrev pub mutations_of : TransactionNumber → List Tagged → List Tagged
mutations_of n tagged = filter (λ (mutation : Tagged). nat_eq mutation.number n) tagged

-- a transaction, and after it its mutations
abbrev pub transaction_text : List Tagged → TransactionNumber → Outcome → List ℕ
transaction_text tagged n outcome =
    transaction_line n outcome ++ flat_map mutation_text (mutations_of n tagged)

-- the transactions from number n on
abbrev pub transactions_text : List Tagged → TransactionNumber → List Outcome → List ℕ
transactions_text tagged n [] = []
transactions_text tagged n (outcome ∷ outcomes) =
    transaction_text tagged n outcome ++ transactions_text tagged (suc n) outcomes

-- the record that proxy p finished, and its transactions
abbrev pub finished_text : ProxyNumber → Finished → List ℕ
finished_text p finished =
    finish_line p finished.version ++ transactions_text finished.tagged 0 finished.outcomes

-- ---- a refused event

-- the value of the refusal, where it has one, after a space
abbrev pub refusal_value : Refusal → List ℕ
refusal_value refusals.NoSuchResolver = []
refusal_value (refusals.Early version) = spaced (decimal version)
refusal_value (refusals.GivenUp acknowledged) = spaced (decimal acknowledged)
refusal_value refusals.NoSuchProxy = []
refusal_value refusals.WrongResolver = []
refusal_value refusals.NoSuchRow = []
refusal_value (refusals.OutOfTurn expected) = spaced (number_or_none expected)
refusal_value (refusals.MissingReply resolver) = spaced (decimal resolver)
refusal_value refusals.VersionsEnd = []
refusal_value refusals.OutOfMemory = []

-- a refusal: its number, its name, and its value
abbrev pub refusal_line : Refusal → List ℕ
refusal_line refusal =
    line (refused_text (refusal_number refusal) (refusal_name refusal) ++ refusal_value refusal)

-- the refusal of the model as the one that has its number and its name
abbrev pub refusal_of : world.Refusal → Refusal
refusal_of world.NoSuchResolver = refusals.NoSuchResolver
refusal_of (world.Early version) = refusals.Early version
refusal_of (world.GivenUp acknowledged) = refusals.GivenUp acknowledged
refusal_of world.NoSuchProxy = refusals.NoSuchProxy
refusal_of world.WrongResolver = refusals.WrongResolver
refusal_of world.NoSuchRow = refusals.NoSuchRow
refusal_of (world.OutOfTurn expected) = refusals.OutOfTurn expected
refusal_of (world.MissingReply resolver) = refusals.MissingReply resolver
refusal_of world.VersionsEnd = refusals.VersionsEnd

-- ---- all events

-- the proxy that finishes a record, if the event is a finish
abbrev pub finishing_proxy : Event → Option ProxyNumber
finishing_proxy (Finish p) = Some p
finishing_proxy (Sequence p batch) = None
finishing_proxy (MoveRange range dest) = None
finishing_proxy (Offer row r) = None

-- the lines of a finished record; a record is finished by a finish alone
abbrev pub finished_batch_text : Option ProxyNumber → Finished → List ℕ
finished_batch_text (Some p) finished = finished_text p finished
finished_batch_text None finished = []

-- the lines of an answer; of a finish, this is the proxy
abbrev pub answer_text : Option ProxyNumber → Answer → List ℕ
answer_text finishing (Sequenced row version) = sequence_line row version
answer_text finishing (Moved date) = move_line date
answer_text finishing (Judged reply) = offer_line (codes "judged") reply
answer_text finishing (Again reply) = offer_line (codes "again") reply
answer_text finishing (FinishedBatch finished) = finished_batch_text finishing finished
answer_text finishing (Refused refusal) = refusal_line (refusal_of refusal)

-- the lines of an event with this answer
abbrev pub event_text : Event → Answer → List ℕ
event_text event answer = answer_text (finishing_proxy event) answer

-- the lines of all events, each with its answer
abbrev pub events_text : List Event → List Answer → List ℕ
events_text [] answers = []
events_text (event ∷ events) [] = []
events_text (event ∷ events) (answer ∷ answers) =
    event_text event answer ++ events_text events answers
