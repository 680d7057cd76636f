-- By cases on what the bytes are.
use Rattle.std.proofs.Common.{◌≡◌, ◌∙◌, ◌++◌, ℕ, List, append_assoc, ap, subst, sym, refl, inl, inr}
use Rattle.std.specs.Prelude.{◌⊎◌, Result, Ok, Err, IsOk, Some}
use Rattle.scripts.specs.Outputs.{OutputView, refused_output}
use Rattle.scripts.specs.declared.script_fault.ScriptFault.{ScriptFault}
use Rattle.scripts.specs.declared.status.RunStatus.TheVariants.{Done, ScriptRefused}
use Rattle.threads_run.specs.Laws.{ADoneRunWroteATextOfItsScript, AFailedRunWroteABeginning, ARefusedRunWroteTheFault}
use Rattle.threads_run.specs.Runs.{IsOutputOf, IsOutputForInput, IsOutputFor}
use Rattle.threads_run.specs.Text.{IsThreadsText}
use Rattle.threads_scripts.specs.Scripts.{script_of}
use Rattle.threads_scripts.specs.declared.script.ThreadsScript.{ThreadsScript}
use Rattle.threads_run.proofs.laws.written_from_text_law.Goals as goal

-- an answer to the input is one to these bytes
to_bytes : (bytes : List ℕ) (answer : OutputView) → IsOutputForInput (Some bytes) answer → IsOutputFor bytes answer
to_bytes bytes answer (read, is, answers) = subst (λ (b : List ℕ). IsOutputFor b answer) is answers

-- a result is one or the other
ok_or_err : {X F : Type 0} (result : Result X F) → ((x : X) × (result ≡ Ok x)) ⊎ ((fault : F) × (result ≡ Err fault))
ok_or_err (Ok x) = inl (x, refl)
ok_or_err (Err fault) = inr (fault, refl)

-- a run that is refused is not done
status_apart : ScriptRefused ≡ Done → ⊥
status_apart same = cc

refused_status : (answer refusal : OutputView) → refusal.status ≡ ScriptRefused → answer ≡ refusal → answer.status ≡ ScriptRefused
refused_status answer refusal refused is = ap (λ (a : OutputView). a.status) is ∙ refused

-- a script that is done has no fault
done_script : (said : Result ThreadsScript ScriptFault) (answer : OutputView) → IsOutputOf said answer → answer.status ≡ Done
    → (script : ThreadsScript) × (said ≡ Ok script) × IsThreadsText script answer.text
done_script said answer is done = by (ok_or_err said)
  where
    told : (result : Result ThreadsScript ScriptFault) → said ≡ result → IsOutputOf result answer
    told result same = subst (λ (r : Result ThreadsScript ScriptFault). IsOutputOf r answer) same is

    by : ((script : ThreadsScript) × (said ≡ Ok script)) ⊎ ((fault : ScriptFault) × (said ≡ Err fault))
        → (script : ThreadsScript) × (said ≡ Ok script) × IsThreadsText script answer.text
    by (inl (script, ok)) = (script, ok, (told (Ok script) ok).0)
    by (inr (fault, err)) = absurd (status_apart (sym (refused_status answer (refused_output fault) refl (told (Err fault) err)) ∙ done))

-- one that is refused has one
refused_script : (said : Result ThreadsScript ScriptFault) (answer : OutputView) → IsOutputOf said answer → answer.status ≡ ScriptRefused
    → (fault : ScriptFault) × (said ≡ Err fault) × (answer ≡ refused_output fault)
refused_script said answer is refused = by (ok_or_err said)
  where
    told : (result : Result ThreadsScript ScriptFault) → said ≡ result → IsOutputOf result answer
    told result same = subst (λ (r : Result ThreadsScript ScriptFault). IsOutputOf r answer) same is

    by : ((script : ThreadsScript) × (said ≡ Ok script)) ⊎ ((fault : ScriptFault) × (said ≡ Err fault))
        → (fault : ScriptFault) × (said ≡ Err fault) × (answer ≡ refused_output fault)
    by (inl (script, ok)) = absurd (status_apart (sym refused ∙ (told (Ok script) ok).1))
    by (inr (fault, err)) = (fault, err, told (Err fault) err)

done_law : ADoneRunWroteATextOfItsScript
done_law answer bytes old new (answers, put, status) =
    let (script, is, text) = done_script (script_of bytes) answer (to_bytes bytes answer answers) status in
    (script, is, text, put)

refused_law : ARefusedRunWroteTheFault
refused_law answer bytes old new (answers, put, status) =
    let (fault, is, same) = refused_script (script_of bytes) answer (to_bytes bytes answer answers) status in
    (fault, is, put ∙ ap (λ (a : OutputView). old ++ a.text) same)

failed_law : AFailedRunWroteABeginning
failed_law answer bytes old new (inl none) = absurd none
failed_law answer bytes old new (inr (answers, (rest, (front, all, put)))) =
    (to_bytes bytes answer answers, (rest, ap (λ (text : List ℕ). old ++ text) (sym all) ∙ sym (append_assoc old front rest) ∙ ap (λ (text : List ℕ). text ++ rest) (sym put)))

pub returns : goal.returns
returns c = record {
  done = done_law;
  refused = refused_law;
  failed = failed_law;
  others = record {
    out_of_memory = λ answer bytes old new none. none;
    cluster_refused = λ answer bytes old new is. is.0;
    without_fault = λ answer bytes old is. subst (λ (b : List ℕ). IsOk (script_of b)) is.1.1 is.1.2;
  };
}
