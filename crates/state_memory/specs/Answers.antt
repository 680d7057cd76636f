-- What a resolver answers, whichever requests it stands for, and the numbers and names of refusals
-- (this project's profile).
use Rattle.std.specs.Prelude.{◌≡◌, ℕ, ◌-◌, List, [], ◌∷◌, ◌++◌, length, codes, Option, Some, None}
use Rattle.std.specs.Prelude.{Result}
use Rattle.system_keys.specs.AsSpecified.{IsAsSpecified}
use Rattle.model.specs.declared.reply.Reply.{Reply}
use Rattle.model.specs.declared.verdict.Verdict.{Verdict}
use Rattle.model.specs.Requests.{Request, request_reply, request_verdicts, remembered_requests}
use Rattle.model.specs.Offers.{OfferAnswer, OfferFault, answer_to}
use Rattle.model.specs.Offers as offers
use Rattle.model.specs.ResolverMemory.{ResolverView, StandsForRequests, Decision as Way, course}
use Rattle.model.specs.ResolverMemory as way
use Rattle.model.specs.WriteHistories.{StandsForShares, shares_of}
use Rattle.state_memory.specs.declared.answer.Answer.{Answer}
use Rattle.state_memory.specs.declared.answer.Answer.TheVariants as answers
use Rattle.state_memory.specs.declared.answer.Decision.{Decision}
use Rattle.state_memory.specs.declared.answer.Decision.TheVariants as courses
use Rattle.state_memory.specs.declared.refusal.Refusal.{Refusal}
use Rattle.state_memory.specs.declared.refusal.Refusal.TheVariants as refusals

-- the answer, in the model's words
abbrev pub offer_answer_of : Answer → OfferAnswer
offer_answer_of (answers.Judged reply) = offers.Judged reply
offer_answer_of (answers.Again reply) = offers.Again reply

-- what it does, in the model's words
abbrev pub course_of : Decision → Way
course_of (courses.GiveAgain reply) = way.GiveAgain reply
course_of courses.Judge = way.Judge

-- which fault a refusal is; `OutOfMemory` is none
abbrev pub fault_of : Refusal → Option OfferFault
fault_of refusals.WrongResolver = Some offers.WrongResolver
fault_of refusals.NoSuchProxy = Some offers.NoSuchProxy
fault_of (refusals.OutsideChain version) = Some (offers.OutsideChain version)
fault_of (refusals.GivenUp acknowledged) = Some (offers.GivenUp acknowledged)
fault_of (refusals.Early version) = Some (offers.Early version)
fault_of refusals.OutOfMemory = None

-- the number that is printed; `OutOfMemory` has none, and is never printed
abbrev pub refusal_number : Refusal → Option ℕ
refusal_number refusals.WrongResolver = Some 33
refusal_number refusals.NoSuchProxy = Some 32
refusal_number (refusals.OutsideChain version) = Some 34
refusal_number (refusals.GivenUp acknowledged) = Some 31
refusal_number (refusals.Early version) = Some 30
refusal_number refusals.OutOfMemory = None

abbrev pub refusal_name : Refusal → List ℕ
refusal_name refusals.WrongResolver = codes "WrongResolver"
refusal_name refusals.NoSuchProxy = codes "NoSuchProxy"
refusal_name (refusals.OutsideChain version) = codes "OutsideChain"
refusal_name (refusals.GivenUp acknowledged) = codes "GivenUp"
refusal_name (refusals.Early version) = codes "Early"
refusal_name refusals.OutOfMemory = codes "OutOfMemory"

-- whatever requests the resolver stands for, the result is the answer of the definition after these
-- requests; or it is out of memory, and then the definition does not refuse the request
abbrev pub AnswersAfterJudged :
    (before : ResolverView) (q : Request) (result : Result Answer Refusal) → Type 0
AnswersAfterJudged before q result =
    (judged : List Request) → StandsForRequests before judged
    → IsAsSpecified fault_of offer_answer_of result
    (answer_to before.number (length before.proxies) before.written.window judged q)

-- what an answer tells of the course: the request was judged, or this reply was given again
abbrev pub way_of : Answer → Way
way_of (answers.Judged reply) = way.Judge
way_of (answers.Again reply) = way.GiveAgain reply

-- What the resolver keeps says by itself which fault the request has, and otherwise whether it is
-- judged or gets a reply again, and which. Out of memory comes only for a request without a fault.
abbrev pub TakesCourse :
    (before : ResolverView) (q : Request) (result : Result Answer Refusal) → Type 0
TakesCourse before q result = IsAsSpecified fault_of way_of result (course before q)

-- whatever requests the resolver stood for, it stands for this one too
abbrev pub GainsRequest : (before : ResolverView) (q : Request) (after : ResolverView) → Type 0
GainsRequest before q after =
    (judged : List Request) → StandsForRequests before judged
    → StandsForRequests after (judged ++ q ∷ [])

-- Whatever requests the resolver stood for, it has forgotten the writes of these and of this one that
-- lie at least the window before its version.
abbrev pub ForgetsOldWrites : (before : ResolverView) (q : Request) (after : ResolverView) → Type 0
ForgetsOldWrites before q after =
    (judged : List Request) → StandsForRequests before judged
    → StandsForShares after.written (shares_of (judged ++ q ∷ [])) (q.version - after.written.window)

-- a request that was judged makes the resolver forget old writes
abbrev pub ForgetsIfJudged : (before : ResolverView) (q : Request) (after : ResolverView) → Answer → Type 0
ForgetsIfJudged before q after (answers.Judged reply) = ForgetsOldWrites before q after
ForgetsIfJudged before q after (answers.Again reply) = Unit {0}

-- a request that was judged adds to what the resolver stands for, and a repeat changes nothing
abbrev pub IsAfterAnswer : (before : ResolverView) (q : Request) (after : ResolverView) → Answer → Type 0
IsAfterAnswer before q after (answers.Judged reply) = GainsRequest before q after
IsAfterAnswer before q after (answers.Again reply) = after ≡ before

-- the resolver has reached the version of a request that was judged, and a repeat leaves its version
abbrev pub ComesTo : (before : ResolverView) (q : Request) (after : ResolverView) → Answer → Type 0
ComesTo before q after (answers.Judged reply) = after.version ≡ q.version
ComesTo before q after (answers.Again reply) = after.version ≡ before.version

-- whatever requests the resolver stands for, this is the reply to the next one
abbrev pub RepliesAfterJudged : (before : ResolverView) (q : Request) (reply : Reply) → Type 0
RepliesAfterJudged before q reply =
    (judged : List Request) → StandsForRequests before judged
    → reply ≡ request_reply before.written.window judged q

-- the request was judged, and this is its reply
pub record IsJudged
    (before : ResolverView) (q : Request) (reply : Reply) (after : ResolverView) : Type 0 where
  pub replied : RepliesAfterJudged before q reply
  pub gains : GainsRequest before q after
  pub forgets : ForgetsOldWrites before q after
  pub version : after.version ≡ q.version
  pub number : after.number ≡ before.number
  pub proxies : length after.proxies ≡ length before.proxies
  pub window : after.written.window ≡ before.written.window

-- whatever requests the resolver stands for, these are the verdicts on the next one
abbrev pub AreVerdictsAfterJudged :
    (before : ResolverView) (q : Request) (verdicts : List Verdict) → Type 0
AreVerdictsAfterJudged before q verdicts =
    (judged : List Request) → StandsForRequests before judged
    → verdicts ≡ request_verdicts before.written.window judged q

-- whatever requests the resolver stands for, this number of them is remembered
abbrev pub IsRememberedCount : (memory : ResolverView) (count : ℕ) → Type 0
IsRememberedCount memory count =
    (judged : List Request) → StandsForRequests memory judged
    → count ≡ length (remembered_requests (length memory.proxies) judged)
