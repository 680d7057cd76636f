-- A session after a line.
use Rattle.std.proofs.Common.{◌≡◌, ℕ, List, subst}
use Rattle.std.specs.Prelude.{Result, Ok, Err, OnErr, OnOk, IsErrOf}
use Rattle.session_run.specs.Session.{session_rules}
use Rattle.session_texts.specs.Sessions.{SessionView, after_line, answer_to}

-- the line was carried out, and its answer is kept
pub kept_line : {A E : Type 0} (result : Result A E) (old new : SessionView) (line : List ℕ)
    → new.cluster ≡ session_rules.after old.cluster line → OnOk result (new.answer ≡ answer_to old line)
    → OnOk result (new ≡ after_line old line)
kept_line (Ok done) old new line carried_out kept = λ i. record { cluster = carried_out i; answer = kept i }
kept_line (Err fault) old new line carried_out kept = tt

-- what holds after every fault holds after this one
pub at_fault : {A E P : Type 0} (result : Result A E) (fault : E) → OnErr result P → IsErrOf result fault → P
at_fault {A} {E} {P} result fault holds is = subst (λ (r : Result A E). OnErr r P) is holds
