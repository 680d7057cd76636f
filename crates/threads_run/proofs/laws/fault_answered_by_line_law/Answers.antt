-- Answers differ by their status or by their text.
use Rattle.std.proofs.Common.{◌≡◌, ◌+◌, ◌++◌, [], ◌∷◌, ℕ, List, ap, get_or, length, length-append, refl, sym, arith}
use Rattle.std.specs.Fmt.{digits}
use Rattle.scripts.specs.Outputs.{OutputView, refused_output}
use Rattle.scripts.specs.declared.script_fault.ScriptFault.TheVariants.{BadShape, NotJson}
use Rattle.scripts.specs.declared.status.RunStatus.TheVariants.{Done, ScriptRefused}
use Rattle.threads_run.specs.Laws.{AFaultHasOneAnswer, AScriptWithoutFaultIsNotRefused}
use Rattle.threads_run.proofs.laws.fault_answered_by_line_law.Goals as goal

-- the second digit of the number tells the faults apart
told_apart : refused_output BadShape ≡ refused_output NotJson → ⊥
unfolding digits
told_apart same = let digit : ◌≡◌ {A = ℕ} 49 48 = ap (λ (a : OutputView). get_or a.text 9 0) same in absurd (omega (arith, digit))

-- a run that is refused is not done
status_apart : ScriptRefused ≡ Done → ⊥
status_apart same = cc

-- a text is not itself and a line end more
no_longer : (text : List ℕ) → text ++ 10 ∷ [] ≡ text → ⊥
no_longer text same =
    let size : length (text ++ 10 ∷ []) ≡ length text = ap (λ (t : List ℕ). length t) same in
    let one : length (text ++ 10 ∷ []) ≡ length text + length {A = ℕ} (10 ∷ []) = length-append text (10 ∷ []) in
    absurd (omega (arith, size, one))

fault_law : AFaultHasOneAnswer
fault_law = record {
  answer = refl;
  another_fault = told_apart;
  another_status = λ same. status_apart (sym (ap (λ (a : OutputView). a.status) same));
  a_line_more = λ same. no_longer (refused_output NotJson).text (ap (λ (a : OutputView). a.text) same);
}

no_fault_law : AScriptWithoutFaultIsNotRefused
no_fault_law script fault is = status_apart is.1

pub returns : goal.returns
returns c = record { fault = fault_law; no_fault = no_fault_law }
