-- Which state transactions are applied: by each resolver's verdict, and by the lock. Which
-- transactions the lock refuses.
use Rattle.std.proofs.Common.{◌≡◌, ◌<◌, ◌&&◌, ◌||◌, refl, ℕ, zero, suc, List, [], ◌∷◌, Bool, true, false, not, length, Some, inl, inr, arith}
use Rattle.std.specs.Prelude.{◌⊎◌, ◌↔◌, IsTrue, IsFalse, slice_get}
use Rattle.std.specs.List.{list_all}
use Rattle.model.specs.declared.journal.StateTxn.{StateTxn}
use Rattle.model.specs.declared.verdict.Verdict.{Verdict}
use Rattle.model.specs.declared.verdict.Verdict.TheVariants.{Conflict, TooOld, Committed}
use Rattle.model.specs.Verdicts.{is_committed}
use Rattle.model.specs.Metadata.{is_applied}
use Rattle.model.specs.Laws.Outcomes.{TheLockRefusesThePlain}

-- each verdict of the list is Committed
abbrev AreCommitted : List Verdict → Type 0
AreCommitted verdicts = (r : ℕ) → r < length verdicts → slice_get verdicts r ≡ Some Committed

committed_each : (verdicts : List Verdict) → list_all is_committed verdicts ≡ true → AreCommitted verdicts
committed_each [] all r low = absurd (omega arith)
committed_each (Committed ∷ verdicts) all zero low = refl
committed_each (Committed ∷ verdicts) all (suc r) low = committed_each verdicts all r (omega arith)
committed_each (Conflict ∷ verdicts) all r low = cc
committed_each (TooOld ∷ verdicts) all r low = cc

each_committed : (verdicts : List Verdict) → AreCommitted verdicts → list_all is_committed verdicts ≡ true
each_committed [] each = refl
each_committed (Committed ∷ verdicts) each = each_committed verdicts (λ r low. each (suc r) (omega arith))
each_committed (Conflict ∷ verdicts) each =
    let bad : Some Conflict ≡ Some Committed = each 0 (omega arith) in
    cc
each_committed (TooOld ∷ verdicts) each =
    let bad : Some TooOld ≡ Some Committed = each 0 (omega arith) in
    cc

both_true : (a b : Bool) → (a && b) ≡ true → (a ≡ true) × (b ≡ true)
both_true true b e = (refl, e)
both_true false b e = cc

and_true : (a b : Bool) → a ≡ true → b ≡ true → (a && b) ≡ true
and_true true b h e = e
and_true false b h e = cc

meets_no_lock : (aware locked : Bool) → (aware || not locked) ≡ true → IsTrue aware ⊎ IsFalse locked
meets_no_lock true locked e = inl refl
meets_no_lock false true e = cc
meets_no_lock false false e = inr refl

no_lock_met : (aware locked : Bool) → IsTrue aware ⊎ IsFalse locked → (aware || not locked) ≡ true
no_lock_met true locked either = refl
no_lock_met false true (inl e) = cc
no_lock_met false true (inr e) = cc
no_lock_met false false either = refl

pub let_pass_iff : (locked : Bool) (t : StateTxn)
    → IsTrue (is_applied locked t)
    ↔ (((r : ℕ) → r < length t.verdicts → slice_get t.verdicts r ≡ Some Committed) × (IsTrue t.lock_aware ⊎ IsFalse locked))
let_pass_iff locked t = (
  λ passes. let both = both_true (list_all is_committed t.verdicts) (t.lock_aware || not locked) passes in
      (committed_each t.verdicts both.0, meets_no_lock t.lock_aware locked both.1),
  λ both. and_true (list_all is_committed t.verdicts) (t.lock_aware || not locked) (each_committed t.verdicts both.0) (no_lock_met t.lock_aware locked both.1),
)

locked_and_plain : (aware locked : Bool) → (not aware && locked) ≡ true
    → IsTrue locked × IsFalse aware
locked_and_plain true locked refused = cc
locked_and_plain false locked refused = (refused, refl)

refused_plain : (aware locked : Bool) → IsTrue locked × IsFalse aware
    → (not aware && locked) ≡ true
refused_plain true locked both = let aware = both.1 in cc
refused_plain false locked both = both.0

pub the_lock_refuses_the_plain : TheLockRefusesThePlain
the_lock_refuses_the_plain locked transaction = (
  locked_and_plain transaction.lock_aware locked,
  refused_plain transaction.lock_aware locked,
)
