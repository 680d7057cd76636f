-- A missing verdict counts as Conflict.
use Rattle.std.proofs.Common.{◌≡◌, refl, ap, ◌∙◌, ℕ, suc, List, [], ◌∷◌, take}
use Rattle.std.proofs.lemmas.Bool.{eqb-true}
use Rattle.std.specs.Prelude.{Bool, true, false, if◌then◌else◌, nat_eq, Option, Some, None, unwrap_or}
use Rattle.model.specs.declared.part.Part.{Part}
use Rattle.model.specs.declared.verdict.Verdict.{Verdict}
use Rattle.model.specs.declared.verdict.Verdict.TheVariants.{Conflict}
use Rattle.model.specs.Transactions.{StampedTransaction}
use Rattle.model.specs.Records.{Record}
use Rattle.model.specs.Shares.{share}
use Rattle.model.specs.Journal.{history_verdicts, history_verdict_in_row, history_verdict_in_record, verdict_or_conflict, list_at, cell_verdicts, cell_verdict_in_row}
use Rattle.model.specs.Missing.{HasNoVerdict, NoRecordIsConflict, NoTransactionIsConflict, UnknownRecordIsConflict, NoVerdictInCellIsConflict, UnjudgedMarkIsConflict, NoVerdictIsToldAsConflict}

-- ---- by a history

pub no_record_is_conflict : NoRecordIsConflict
unfolding history_verdicts
no_record_is_conflict config h r row number none = ap (λ (found : Option Record). history_verdict_in_row config h r row number found) none

pub no_transaction_is_conflict : NoTransactionIsConflict
unfolding history_verdicts
no_transaction_is_conflict config h r row number rec at none =
    ap (λ (found : Option Record). history_verdict_in_row config h r row number found) at
    ∙ ap (λ (found : Option StampedTransaction). history_verdict_in_record config r (take row h) rec number found) none

-- ---- by verdict cells

-- a number without a part
no_part_is_conflict : (verdicts : List Verdict) (number : ℕ) → verdict_or_conflict [] verdicts number ≡ Conflict
no_part_is_conflict verdicts number = refl

-- a part without a verdict
short_cell_is_conflict : (part : Part) (parts : List Part) (number : ℕ) → verdict_or_conflict (part ∷ parts) [] number ≡ Conflict
short_cell_is_conflict part parts number = refl

no_verdict_is_conflict : (parts : List Part) (verdicts : List Verdict) (number : ℕ) → HasNoVerdict parts verdicts number → verdict_or_conflict parts verdicts number ≡ Conflict
no_verdict_is_conflict [] verdicts number none = no_part_is_conflict verdicts number
no_verdict_is_conflict (part ∷ parts) [] number none = short_cell_is_conflict part parts number
no_verdict_is_conflict (part ∷ parts) (verdict ∷ verdicts) number none = by (nat_eq part.number number) refl (no_verdict_is_conflict parts verdicts number (λ place other at same. none (suc place) other at same))
  where
    by : (b : Bool) → nat_eq part.number number ≡ b → verdict_or_conflict parts verdicts number ≡ Conflict → (if b then verdict else verdict_or_conflict parts verdicts number) ≡ Conflict
    by true here rest = let there : Some verdict ≡ None = none 0 part refl (eqb-true part.number number here) in absurd (cc)
    by false other rest = rest

pub unknown_record_is_conflict : UnknownRecordIsConflict
unfolding cell_verdicts
unknown_record_is_conflict config h columns r row number none = ap (λ (found : Option Record). cell_verdict_in_row config (list_at (list_at columns r) row) r number found) none

pub no_verdict_in_cell_is_conflict : NoVerdictInCellIsConflict
unfolding cell_verdicts
no_verdict_in_cell_is_conflict config h columns r row number rec at none =
    ap (λ (found : Option Record). cell_verdict_in_row config (list_at (list_at columns r) row) r number found) at
    ∙ no_verdict_is_conflict (share config rec r) (list_at (list_at columns r) row) number none

-- ---- as it is told

pub unjudged_mark_is_conflict : UnjudgedMarkIsConflict
unjudged_mark_is_conflict parts verdicts mark none = no_verdict_is_conflict parts verdicts mark.number none

pub no_verdict_is_told_as_conflict : NoVerdictIsToldAsConflict
no_verdict_is_told_as_conflict r t none = ap (λ (found : Option Verdict). unwrap_or found Conflict) none
