-- The answer to a request, by the course that the resolver takes.
use Rattle.std.proofs.Common.{◌≡◌, sym, ap, ◌∙◌, subst, List, length, Option, Some, None}
use Rattle.std.specs.Prelude.{Result, Ok, Err, IsOk}
use Rattle.system_keys.specs.AsSpecified.{IsFaultOf}
use Rattle.model.specs.Requests.{Request, request_reply}
use Rattle.model.specs.Offers.{OfferResult, OfferFault, answer_to}
use Rattle.model.specs.ResolverMemory.{ResolverView, StandsForRequests, Decision, GiveAgain, Judge, course}
use Rattle.model.specs.Laws.Resolvers.{answer_on_course}
use Rattle.model.proofs.Resolvers.Answers.{memory_answers}

-- the answer of the definition after these requests
abbrev pub answer : ResolverView → List Request → Request → OfferResult
answer v judged q = answer_to v.number (length v.proxies) v.written.window judged q

pub on_course : (v : ResolverView) (judged : List Request) (q : Request) (way : Result Decision OfferFault) → StandsForRequests v judged → course v q ≡ way → answer v judged q ≡ answer_on_course (request_reply v.written.window judged q) way
on_course v judged q way stands is = memory_answers v judged q stands ∙ ap (answer_on_course (request_reply v.written.window judged q)) is

-- a refusal is that of the answer, and out of memory comes where a request is served
pub refused_alike : (v : ResolverView) (judged : List Request) (q : Request) (fault : Option OfferFault) → StandsForRequests v judged → IsFaultOf fault (course v q) → IsFaultOf fault (answer v judged q)
refused_alike v judged q (Some fault) stands is = on_course v judged q (Err fault) stands is
refused_alike v judged q None stands ok = subst IsOk (sym (memory_answers v judged q stands)) (by (course v q) ok)
  where
    by : (way : Result Decision OfferFault) → IsOk way → IsOk (answer_on_course (request_reply v.written.window judged q) way)
    by (Ok (GiveAgain reply)) is = is
    by (Ok Judge) is = is
    by (Err fault) is = is
