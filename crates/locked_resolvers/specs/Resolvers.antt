-- What a resolver's lock keeps, and what an offer does to it. *Profile*, but for what a resolver
-- answers.
use Rattle.std.specs.Prelude.{◌≡◌, ℕ, ◌+◌, ◌<◌, ◌≤◌, List, [], ◌∷◌, ◌++◌, length, map, take}
use Rattle.std.specs.Prelude.{slice_get, Option, Some, None, Bool, true}
use Rattle.std.specs.Prelude.{false, not, ◌&&◌, nat_eq, nat_lt, IsTrue, IsFalse, ◌⊎◌, Ok, Err, IsOk}
use Rattle.facts.specs.Stretches.{Agree}
use Rattle.model.specs.Numbers.{Version, ResolverNumber, RowNumber}
use Rattle.model.specs.Configs.{Config, IsConfig}
use Rattle.model.specs.Records.{Record, IsHistory}
use Rattle.model.specs.declared.reply.Reply.{Reply}
use Rattle.model.specs.Agreed.{Column, IsVerdictColumn}
use Rattle.model.specs.Requests.{Request, request}
use Rattle.model.specs.Offers.{OfferResult, OfferFault, answer_to}
use Rattle.model.specs.Offers as offers
use Rattle.model.specs.ResolverMemory.{ResolverView, StandsForRequests}
use Rattle.state_memory.specs.Answers.{GainsRequest}
use Rattle.agreed_ledger.specs.Cells.{NotedVerdicts, AreKnownAt}
use Rattle.locked_resolvers.specs.Requests.{RequestView}
use Rattle.locked_resolvers.specs.NotedReplies.{NotedReplyView, IsReplyToRequest}
use Rattle.locked_resolvers.specs.declared.refusal.Refusal.{Refusal}
use Rattle.locked_resolvers.specs.declared.refusal.Refusal.TheVariants as refusals

-- A resolver under its lock: what it keeps of the requests that it judged, the records of their rows,
-- its verdict cells of these rows, and whether it is closed.
pub record LockedResolverView : Type 0 where
  pub memory : ResolverView
  pub records : List Record
  pub column : Column
  pub closed : Bool

-- the requests for some records to resolver r, with the version last received of each
abbrev pub requests_to :
    Config → (received : Record → Version) → ResolverNumber → List Record → List Request
requests_to config received r records =
    map (λ (rec : Record). request config rec (received rec) r) records

-- the version last received at each of these records is not above the record's previous version
abbrev pub AreReceivedBefore : (received : Record → Version) → List Record → Type 0
AreReceivedBefore received records =
    (row : ℕ) (rec : Record) → slice_get records row ≡ Some rec → received rec ≤ rec.previous

-- the resolver stands for the requests for these records, with some version last received at each
pub record StandsForRecords (config : Config) (memory : ResolverView) (records : List Record) :
    Type 0 where
  pub received : Record → Version
  pub before : AreReceivedBefore received records
  pub requests : StandsForRequests memory (requests_to config received memory.number records)

-- The records of the rows judged are a history. Each row has the verdict cell of this resolver, with
-- the definition's verdicts on these records. The memory stands for the requests for them.
pub record IsLockedResolver (config : Config) (v : LockedResolverView) : Type 0 where
  pub config_is : IsConfig config
  pub there : v.memory.number < config.resolvers
  pub history : IsHistory config v.records
  pub cells : length v.column ≡ length v.records
  pub verdicts : IsVerdictColumn config v.records v.memory.number v.column
  pub proxies : length v.memory.proxies ≡ config.proxies
  pub window : v.memory.written.window ≡ config.window
  pub stands : StandsForRecords config v.memory v.records

-- the resolver before its first request
pub record IsNewLockedResolver (r : ResolverNumber) (v : LockedResolverView) : Type 0 where
  pub number : v.memory.number ≡ r
  pub records : v.records ≡ []
  pub column : v.column ≡ []
  pub closed : v.closed ≡ false

-- the same resolver, closed
abbrev pub closed_resolver : LockedResolverView → LockedResolverView
closed_resolver v = record v { closed = true }

-- the request has to wait: the resolver is open, and the request is to it and comes too early
abbrev pub is_early : LockedResolverView → Request → Bool
is_early v q =
    not v.closed && nat_eq q.resolver v.memory.number && nat_lt v.memory.version q.previous

-- ---- what an offer does

-- What the definition answers has this property, after every list of requests that the resolver
-- stands for.
abbrev pub AnswerHas : ResolverView → Request → (OfferResult → Type 0) → Type 0
AnswerHas memory q property =
    (judged : List Request) → StandsForRequests memory judged
    → property (answer_to memory.number (length memory.proxies) memory.written.window judged q)

-- the definition judges the request, with some reply
abbrev pub IsJudgedAnswer : OfferResult → Type 0
IsJudgedAnswer answer = (reply : Reply) × (answer ≡ Ok (offers.Judged reply))

-- The request came next and was judged: exactly one row is appended, with the record and the verdict
-- cell that the reply was made by. The reply is the definition's. Whatever requests the memory stood
-- for, it stands for this one after them.
pub record HasJudged
    (before : LockedResolverView) (request : RequestView)
    (after : LockedResolverView) (noted : NotedReplyView) : Type 0 where
  pub rec : Record
  pub row : request.plain.row ≡ length before.records
  pub grown : request.records ≡ before.records ++ rec ∷ []
  pub records : after.records ≡ request.records
  pub column : after.column ≡ before.column ++ noted.reply.verdicts ∷ []
  pub gains : GainsRequest before.memory request.plain after.memory
  pub number : after.memory.number ≡ before.memory.number
  pub version : after.memory.version ≡ noted.reply.version
  pub closed : after.closed ≡ before.closed
  pub noted_records : noted.records ≡ request.records
  pub noted_column : noted.column ≡ after.column
  pub answer : AnswerHas before.memory request.plain (λ answer. answer ≡ Ok (offers.Judged noted.reply))

-- The request had been judged before: it gets its reply again, and nothing changes.
pub record HasRepeated
    (before : LockedResolverView) (request : RequestView)
    (after : LockedResolverView) (noted : NotedReplyView) : Type 0 where
  pub row : request.plain.row < length before.records
  pub unchanged : after ≡ before
  pub version : noted.reply.version ≤ before.memory.version
  pub records : take (request.plain.row + 1) before.records ≡ request.records
  pub noted_records : noted.records ≡ request.records
  pub noted_column : noted.column ≡ before.column
  pub answer : AnswerHas before.memory request.plain (λ answer. answer ≡ Ok (offers.Again noted.reply))

-- the resolver is open, the request is to it, and the reply is of a judging or of a repeat
pub record HasOffered
    (before : LockedResolverView) (request : RequestView)
    (after : LockedResolverView) (noted : NotedReplyView) : Type 0 where
  pub is_open : IsFalse before.closed
  pub own : request.plain.resolver ≡ before.memory.number
  pub reply_to : IsReplyToRequest request.plain noted.reply
  pub done : HasJudged before request after noted ⊎ HasRepeated before request after noted

-- the resolver is open, and the definition refuses the request with this fault
abbrev pub IsFault : LockedResolverView → Request → OfferFault → Type 0
IsFault before q fault =
    IsFalse before.closed × AnswerHas before.memory q (λ answer. answer ≡ Err fault)

-- Each refusal of an offer comes only by its cause: the resolver is closed; or it is open, and the
-- definition refuses the request so; or the definition does not refuse it, and an allocation failed;
-- or the definition judges it, and the verdict cell of its row is taken.
abbrev pub IsOfferRefusal : LockedResolverView → Request → Refusal → Type 0
IsOfferRefusal before q refusals.Closed = IsTrue before.closed
IsOfferRefusal before q refusals.WrongResolver = IsFault before q offers.WrongResolver
IsOfferRefusal before q refusals.NoSuchProxy = IsFault before q offers.NoSuchProxy
IsOfferRefusal before q (refusals.OutsideChain version) = IsFault before q (offers.OutsideChain version)
IsOfferRefusal before q (refusals.GivenUp acknowledged) = IsFault before q (offers.GivenUp acknowledged)
IsOfferRefusal before q (refusals.Early version) = IsFault before q (offers.Early version)
IsOfferRefusal before q refusals.OutOfMemory =
    IsFalse before.closed × AnswerHas before.memory q IsOk
IsOfferRefusal before q refusals.CellTaken =
    IsFalse before.closed × AnswerHas before.memory q IsJudgedAnswer
IsOfferRefusal before q refusals.NotMine = ⊥
IsOfferRefusal before q (refusals.OutOfOrder expected) = ⊥
IsOfferRefusal before q (refusals.OutOfTurn expected) = ⊥
IsOfferRefusal before q (refusals.NotReached version) = ⊥

-- With the refusal of a taken cell, and with no other, comes a note of the verdict cell of this row
-- and this resolver, which knows the verdicts in it.
abbrev pub TellsTaken : RowNumber → ResolverNumber → Refusal → Option NotedVerdicts → Type 0
TellsTaken row r refusals.CellTaken taken =
    (note : NotedVerdicts) × (taken ≡ Some note) × AreKnownAt row r note
TellsTaken row r refusal taken = taken ≡ None

-- a refused offer leaves the resolver unchanged, but closed after a taken cell
abbrev pub after_refusal : LockedResolverView → Refusal → LockedResolverView
after_refusal before refusals.CellTaken = closed_resolver before
after_refusal before refusal = before

-- ---- what a call that waits its turn returns

-- the refusal is not `Early`
abbrev pub IsNotEarly : Refusal → Type 0
IsNotEarly (refusals.Early version) = ⊥
IsNotEarly refusal = Unit {0}

-- A resolver of this number, in some state that its lock may keep, refuses an offer of the request so.
-- Its records and the request's are of one history: wherever both have a row, they have the same record.
abbrev pub WasRefusedBy : Config → ResolverNumber → RequestView → Refusal → Type 0
WasRefusedBy config r request refusal =
    (v : LockedResolverView)
    × IsLockedResolver config v × (v.memory.number ≡ r)
    × Agree 0 v.records 0 request.records × IsOfferRefusal v request.plain refusal

-- a resolver of this number refuses the request so, and not since the request is early
abbrev pub IsResolveRefusal : Config → ResolverNumber → RequestView → Refusal → Type 0
IsResolveRefusal config r request refusal =
    IsNotEarly refusal × WasRefusedBy config r request refusal

-- The resolver that is shown is the one that replied. It is open, has reached the reply's version or
-- further, and has the records and the cells that the reply was made by.
pub record ShowsReply
    (request : RequestView) (noted : NotedReplyView) (v : LockedResolverView) : Type 0 where
  pub is_open : IsFalse v.closed
  pub number : v.memory.number ≡ noted.reply.resolver
  pub reply_to : IsReplyToRequest request.plain noted.reply
  pub reached : noted.reply.version ≤ v.memory.version
  pub noted_records : noted.records ≡ request.records
  pub records : take (request.plain.row + 1) v.records ≡ request.records
  pub column : noted.column ≡ v.column
