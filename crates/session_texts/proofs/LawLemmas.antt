-- What a call leaves that places an answer.
use Rattle.std.proofs.Common.{◌≡◌, ◌≢◌, ◌<◌, ◌≤◌, ◌⊎◌, ◌++◌, inl, inr, ℕ, List, drop, length, Option, Some, refl, sym, ◌∙◌, arith}
use Rattle.session_texts.specs.Laws.{AFittingAnswerIsPlaced, AFittingLineIsAnswered, ALostAnswerIsNone, OneStatusOnePlace, OneStatusOneSession}
use Rattle.session_texts.specs.Placing.{AnswersLine, PlacesAnswer}
use Rattle.session_texts.specs.Sessions.{SessionView, after_line, answer_to}

pub fitting_answer : AFittingAnswerIsPlaced
fitting_answer answer status out new n placed fits = by placed.statuses
  where
    by : (status ≡ 0) ⊎ (status ≡ 6) → (status ≡ 0) × (new ≡ answer ++ drop (length answer) out) × (n ≡ length answer)
    by (inl whole) = (whole, placed.text whole, placed.made)
    by (inr small) = absurd (omega (arith, fits, placed.too_small small))

pub one_place : OneStatusOnePlace
one_place answer status out new other n m one two = by one.statuses
  where
    by : (status ≡ 0) ⊎ (status ≡ 6) → (new ≡ other) × (n ≡ m)
    by (inl whole) = (one.text whole ∙ sym (two.text whole), one.made ∙ sym two.made)
    by (inr small) = (one.unwritten small ∙ sym (two.unwritten small), one.made ∙ sym two.made)

pub fitting_line : AFittingLineIsAnswered
fitting_line session line status left out new made n answered fits not_lacking = by answered.statuses
  where
    placed : (status ≡ 0) ⊎ (status ≡ 6) → (status ≡ 0) × (left ≡ Some (after_line session line)) × (new ≡ answer_to session line ++ drop (length (answer_to session line)) out) × (n ≡ length (answer_to session line))
    placed whole =
        let found = fitting_answer (answer_to session line) status out new n (answered.placed whole) fits in
        (found.0, answered.carried_out whole, found.1, found.2)

    by : (status ≡ 0) ⊎ (status ≡ 6) ⊎ (status ≡ 4) ⊎ (status ≡ 8)
        → (status ≡ 0) × (left ≡ Some (after_line session line)) × (new ≡ answer_to session line ++ drop (length (answer_to session line)) out) × (n ≡ length (answer_to session line))
    by (inl whole) = placed (inl whole)
    by (inr (inl small)) = placed (inr small)
    by (inr (inr (inl lacks))) = absurd (not_lacking lacks)
    by (inr (inr (inr lost))) = absurd (omega (arith, fits, answered.too_long lost))

pub one_session : OneStatusOneSession
one_session session line status left kept out new other made n m one two = by one.statuses
  where
    placed : (status ≡ 0) ⊎ (status ≡ 6) → (left ≡ kept) × (new ≡ other) × (n ≡ m)
    placed whole =
        let found = one_place (answer_to session line) status out new other n m (one.placed whole) (two.placed whole) in
        (one.carried_out whole ∙ sym (two.carried_out whole), found.0, found.1)

    unplaced : left ≡ kept → (status ≡ 4) ⊎ (status ≡ 8) → (left ≡ kept) × (new ≡ other) × (n ≡ m)
    unplaced same why = (same, one.unwritten why ∙ sym (two.unwritten why), one.unmade why ∙ sym (two.unmade why))

    by : (status ≡ 0) ⊎ (status ≡ 6) ⊎ (status ≡ 4) ⊎ (status ≡ 8) → (left ≡ kept) × (new ≡ other) × (n ≡ m)
    by (inl whole) = placed (inl whole)
    by (inr (inl small)) = placed (inr small)
    by (inr (inr (inl lacks))) = unplaced (one.unchanged lacks ∙ sym (two.unchanged lacks)) (inl lacks)
    by (inr (inr (inr lost))) = unplaced (one.lost lost ∙ sym (two.lost lost)) (inr lost)

pub lost_is_none : ALostAnswerIsNone
lost_is_none session line = (refl, refl)
