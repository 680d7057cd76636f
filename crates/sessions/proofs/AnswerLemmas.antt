-- Answers to lines, joined and prolonged.
use Rattle.std.proofs.Common.{ℕ, List, [], ◌∷◌, ◌++◌, refl, sym, ap, ◌∙◌, append_assoc, append-nil, inl, subst}
use Rattle.sessions.specs.Answers.{Rules, Answer, Answers}

pub answers_one : {S : Type 0} (rules : Rules S) (old : S) (line text : List ℕ) (new : S) → Answer rules old line text new → Answers rules old (line ∷ []) text new
answers_one rules old line text new answer = (text, [], new, sym (append-nil text), answer, (refl, refl))

pub answers_join : {S : Type 0} (rules : Rules S) (old mid new : S) (lines more : List (List ℕ)) (s t : List ℕ) → Answers rules old lines s mid → Answers rules mid more t new
    → Answers rules old (lines ++ more) (s ++ t) new
answers_join rules old mid new [] more s t first second =
    subst (λ o. Answers rules o more (s ++ t) new) first.1 (subst (λ l. Answers rules mid more (l ++ t) new) (sym first.0) second)
answers_join rules old mid new (line ∷ lines) more s t first second =
    (first.0, first.1 ++ t, first.2, ap (λ l. l ++ t) first.3 ∙ append_assoc first.0 first.1 t, first.4, answers_join rules first.2 mid new lines more first.1 t first.5 second)

-- any lines have answers
pub answers_some : {S : Type 0} (rules : Rules S) (old : S) (lines : List (List ℕ)) → (text : List ℕ) × (new : S) × Answers rules old lines text new
answers_some rules old [] = ([], old, (refl, refl))
answers_some rules old (line ∷ lines) =
    let (rest, new, answers) = answers_some rules (rules.after old line) lines in
    let first = rules.answer old line in
    (first ++ rest, new, (first, rest, rules.after old line, refl, inl (refl, refl), answers))

-- answers are a beginning of the answers to more lines
pub answers_prolonged : {S : Type 0} (rules : Rules S) (old mid : S) (lines more : List (List ℕ)) (s : List ℕ) → Answers rules old lines s mid
    → (rest : List ℕ) × (new : S) × Answers rules old (lines ++ more) (s ++ rest) new
answers_prolonged rules old mid lines more s answers =
    let (rest, new, follow) = answers_some rules mid more in
    (rest, new, answers_join rules old mid new lines more s rest answers follow)
