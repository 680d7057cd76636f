-- The lesser of verdicts does not depend on how they are grouped.
use Rattle.std.proofs.Common.{◌≡◌, refl}
use Rattle.model.specs.declared.verdict.Verdict.{Verdict}
use Rattle.model.specs.declared.verdict.Verdict.TheVariants.{Conflict, TooOld, Committed}
use Rattle.model.specs.Verdicts.{least_of}

pub least_of_least : (a b c : Verdict) → least_of (least_of a b) c ≡ least_of a (least_of b c)
least_of_least Conflict b c = refl
least_of_least TooOld Conflict c = refl
least_of_least TooOld TooOld Conflict = refl
least_of_least TooOld TooOld TooOld = refl
least_of_least TooOld TooOld Committed = refl
least_of_least TooOld Committed c = refl
least_of_least Committed b c = refl
