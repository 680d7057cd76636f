-- Lists in which one part is another.
use Rattle.std.proofs.Common.{◌≡◌, refl, sym, ap, ◌∙◌, ℕ, zero, suc, ◌<◌, List, [], ◌∷◌, length, get_or, slice_get, slice_set, Some, IfOk, OnErr, arith}
use Rattle.std.specs.Prelude.{Result, Ok, Err}
use Rattle.model.specs.Requests.{Request}
use Rattle.model.specs.ResolverMemory.{ResolverView}
use Rattle.state_memory.specs.declared.answer.Answer.{Answer}
use Rattle.state_memory.specs.declared.answer.Answer.TheVariants as offered
use Rattle.state_memory.specs.declared.refusal.Refusal.{Refusal}
use Rattle.state_memory.specs.Answers.{AnswersAfterJudged, IsAfterAnswer}
use Rattle.turn_world.specs.Parts.{IsOfferedAt}

pub got : {X : Type 0} (xs : List X) (i : ℕ) (x : X) → i < length xs → x ≡ get_or xs i x → slice_get xs i ≡ Some x
got [] i x within is = absurd (omega (arith, within))
got (y ∷ ys) zero x within is = ap Some (sym is)
got (y ∷ ys) (suc i) x within is = got ys i x (omega (arith, within)) is

pub set_back : {X : Type 0} (xs : List X) (i : ℕ) (x : X) → slice_get xs i ≡ Some x → slice_set xs i x ≡ xs
set_back [] i x at = refl
set_back (y ∷ ys) zero x at = let same : y ≡ x = cc in ap (λ z. z ∷ ys) (sym same)
set_back (y ∷ ys) (suc i) x at = ap (λ zs. y ∷ zs) (set_back ys i x at)

pub offered_at : (before : List ResolverView) (r : ℕ) (q : Request) (v new : ResolverView) (result : Result Answer Refusal) → slice_get before r ≡ Some v → AnswersAfterJudged v q result → IfOk result (λ answer. IsAfterAnswer v q new answer) → new.number ≡ v.number → length new.proxies ≡ length v.proxies → new.written.window ≡ v.written.window → OnErr result (new ≡ v)
    → IsOfferedAt before r q result (slice_set before r new)
offered_at before r q v new (Ok (offered.Judged reply)) at answer after number proxies window err =
    record { v = v; at = at; answer = answer; after_is = record { new = new; after_is = refl; gains = after; number = number; proxies = proxies; window = window } }
offered_at before r q v new (Ok (offered.Again reply)) at answer after number proxies window err =
    record { v = v; at = at; answer = answer; after_is = ap (slice_set before r) after ∙ set_back before r v at }
offered_at before r q v new (Err refusal) at answer after number proxies window err =
    record { v = v; at = at; answer = answer; after_is = ap (slice_set before r) err ∙ set_back before r v at }
