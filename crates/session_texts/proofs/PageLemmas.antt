-- What the page of an answer holds after another text.
use Rattle.std.proofs.Common.{◌≡◌, ◌∙◌, ◌+◌, ◌<◌, ◌≤◌, ℕ, List, ◌++◌, true, false, sym, ap, length, length-append, vec_len, arith, rules}
use Rattle.std.proofs.lemmas.Bool.{false≢true}
use Rattle.std.specs.Vec.{vec_capacity}
use Rattle.pages.specs.Printing.{Prints}
use Rattle.session_texts.specs.Pages.{HoldsAnswer}
use Rattle.session_texts.specs.declared.answer_page.AnswerPage.{AnswerPage}

-- some was lost before
pub printed_lost : (page : AnswerPage) (text : List ℕ) → page.is_lost ≡ true → Prints HoldsAnswer page page text
printed_lost page text gone =
    record {
      more = λ room before holds. record {
        kept = λ unlost. absurd (false≢true (sym unlost ∙ gone));
        capacity = holds.capacity;
        lost = λ _. omega (arith, holds.lost gone, length-append before text);
      };
    }

-- all of the text is kept
pub printed_kept : (old new : AnswerPage) (text : List ℕ) → old.is_lost ≡ false → new.is_lost ≡ false
    → new.bytes.items ≡ old.bytes.items ++ text → vec_capacity old.bytes ≤ vec_capacity new.bytes → Prints HoldsAnswer old new text
printed_kept old new text unlost still grown larger =
    record {
      more = λ room before holds. record {
        kept = λ _. grown ∙ ap (λ l. l ++ text) (holds.kept unlost);
        capacity = omega (arith, holds.capacity, larger);
        lost = λ gone. absurd (false≢true (sym still ∙ gone));
      };
    }

-- an allocation failed for the text, for which there was no room
pub printed_failed : (old new : AnswerPage) (text : List ℕ) → old.is_lost ≡ false → new.is_lost ≡ true
    → vec_capacity old.bytes < vec_len old.bytes + length text → vec_capacity old.bytes ≤ vec_capacity new.bytes → Prints HoldsAnswer old new text
printed_failed old new text unlost gone full larger =
    let size : vec_len old.bytes ≡ length old.bytes.items = search rules in
    record {
      more = λ room before holds. record {
        kept = λ again. absurd (false≢true (sym again ∙ gone));
        capacity = omega (arith, holds.capacity, larger);
        lost = λ _. omega (arith, holds.capacity, full, size, ap length (holds.kept unlost), length-append before text);
      };
    }
