-- What a call leaves that places a text.
use Rattle.std.proofs.Common.{◌≡◌, ◌≢◌, ◌+◌, ◌<◌, ◌≤◌, ◌⊎◌, ◌++◌, inl, inr, ℕ, List, drop, length, ap, sym, ◌∙◌, length-append, arith}
use Rattle.scripts.specs.Outputs.{OutputView}
use Rattle.scripts.specs.Statuses.{run_status_number}
use Rattle.script_texts.specs.Laws.{AFittingTextIsPlaced, AShortRoomTellsTheLength, OneStatusOneOutcome}
use Rattle.script_texts.specs.Texts.{Places}

pub one_outcome : OneStatusOneOutcome
one_outcome answer status out new other made n m one two = by one.statuses
  where
    unplaced : 2 ≤ status → new ≡ other
    unplaced late = one.unwritten late ∙ sym (two.unwritten late)

    by : (status ≤ 1) ⊎ (status ≡ 6) ⊎ (status ≡ 3) ⊎ (status ≡ 4) → (new ≡ other) × (n ≡ m)
    by (inl whole) = (one.text whole ∙ sym (two.text whole), one.made (inl whole) ∙ sym (two.made (inl whole)))
    by (inr (inl small)) = (unplaced (omega (arith, small)), one.made (inr small) ∙ sym (two.made (inr small)))
    by (inr (inr (inl long))) = (unplaced (omega (arith, long)), one.unmade (inl long) ∙ sym (two.unmade (inl long)))
    by (inr (inr (inr lacks))) = (unplaced (omega (arith, lacks)), one.unmade (inr lacks) ∙ sym (two.unmade (inr lacks)))

pub fitting_placed : AFittingTextIsPlaced
fitting_placed answer status out new made n placed fits not_long not_lacking = by placed.statuses
  where
    by : (status ≤ 1) ⊎ (status ≡ 6) ⊎ (status ≡ 3) ⊎ (status ≡ 4)
        → (status ≡ run_status_number answer.status) × (new ≡ answer.text ++ drop (length answer.text) out) × (n ≡ length answer.text)
    by (inl whole) = (placed.is_status whole, placed.text whole, placed.made (inl whole))
    by (inr (inl small)) = absurd (omega (arith, fits, placed.too_small small))
    by (inr (inr (inl long))) = absurd (not_long long)
    by (inr (inr (inr lacks))) = absurd (not_lacking lacks)

pub length_told : AShortRoomTellsTheLength
length_told answer status out new made n placed keeps short not_long not_lacking = by placed.statuses
  where
    by : (status ≤ 1) ⊎ (status ≡ 6) ⊎ (status ≡ 3) ⊎ (status ≡ 4) → (status ≡ 6) × (new ≡ out) × (n ≡ length answer.text)
    by (inl whole) =
        let parts = ap (λ (l : List ℕ). length l) (placed.text whole) ∙ length-append answer.text (drop (length answer.text) out) in
        absurd (omega (arith, parts, keeps, short))
    by (inr (inl small)) = (small, placed.unwritten (omega (arith, small)), placed.made (inr small))
    by (inr (inr (inl long))) = absurd (not_long long)
    by (inr (inr (inr lacks))) = absurd (not_lacking lacks)
