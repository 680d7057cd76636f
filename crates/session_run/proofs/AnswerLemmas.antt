-- The answers to lines.
use Rattle.std.proofs.Common.{◌≡◌, ℕ, List, [], ◌∷◌, ◌∙◌, ap, refl, sym, inl}
use Rattle.std.specs.Prelude.{None, Result, Ok, Err, OnOk, IsSome}
use Rattle.system_keys.specs.declared.memory.OutOfMemory.{OutOfMemory}
use Rattle.system_keys.specs.AsSpecified.{IsFaultIfAllocated}
use Rattle.pages.specs.Printing.{Prints}
use Rattle.pages.proofs.Prints.{prints_as}
use Rattle.scripts.specs.Outputs.{refused_output}
use Rattle.scripts.specs.ScriptFaults.{fault_number, script_fault}
use Rattle.scripts.specs.declared.script_fault.ScriptFault.{ScriptFault}
use Rattle.scripts.specs.declared.script_fault.ScriptFault.TheVariants as faults
use Rattle.sessions.proofs.LawLemmas.{carried_out}
use Rattle.sessions.specs.Answers.{Answers, CarriesOutSome, Rules, text_of_lines}
use Rattle.session_run.specs.Session.{State, after_read, session_rules, with_empty_line, read_text}
use Rattle.session_run.specs.declared.line.Line.{Line}

-- a fault that has a number is that of the line
pub fault_is : (asked : Result Line ScriptFault) (fault : ScriptFault) → IsFaultIfAllocated (script_fault fault) asked → IsSome (fault_number fault) → asked ≡ Err fault
fault_is asked faults.NotJson fails numbered = fails
fault_is asked faults.BadShape fails numbered = fails
fault_is asked (faults.Refused refusal) fails numbered = fails
fault_is asked faults.NoSuchResolver fails numbered = fails
fault_is asked faults.OutOfMemory fails numbered = let none : IsSome {T = ℕ} None = numbered in cc

-- the text of the answer, and the state after it
pub faulty_text : (state : State) (asked : Result Line ScriptFault) (fault : ScriptFault) → asked ≡ Err fault → read_text state asked ≡ (refused_output fault).text
faulty_text state asked fault is = ap (read_text state) is

pub faulty_state : (state : State) (asked : Result Line ScriptFault) (fault : ScriptFault) → asked ≡ Err fault → state ≡ after_read state asked
faulty_state state asked fault is = sym (ap (after_read state) is)

-- what was printed for a line with a fault, and the state after it
pub faulty_printed : {P O : Type 0} (has_printed : P → O → List ℕ → Type 0) (state : State) (asked : Result Line ScriptFault) (fault : ScriptFault) (result : Result (Unit {0}) OutOfMemory) (old new : P)
    → IsFaultIfAllocated (script_fault fault) asked → OnOk result (IsSome (fault_number fault)) → OnOk result (Prints has_printed old new (with_empty_line (refused_output fault).text))
    → OnOk result (Prints has_printed old new (with_empty_line (read_text state asked)))
faulty_printed has_printed state asked fault (Ok done) old new fails numbered printed =
    prints_as printed (ap with_empty_line (sym (faulty_text state asked fault (fault_is asked fault fails numbered))))
faulty_printed has_printed state asked fault (Err memory) old new fails numbered printed = tt

pub faulty_after : (state : State) (asked : Result Line ScriptFault) (fault : ScriptFault) (result : Result (Unit {0}) OutOfMemory)
    → IsFaultIfAllocated (script_fault fault) asked → OnOk result (IsSome (fault_number fault)) → OnOk result (state ≡ after_read state asked)
faulty_after state asked fault (Ok done) fails numbered = faulty_state state asked fault (fault_is asked fault fails numbered)
faulty_after state asked fault (Err memory) fails numbered = tt

-- ---- all lines

pub text_answers : {S : Type 0} (rules : Rules S) (old : S) (given : List (List ℕ)) → (now : S) × Answers rules old given (text_of_lines rules old given) now
text_answers rules old [] = (old, (refl, refl))
text_answers rules old (line ∷ given) =
    let (now, rest) = text_answers rules (rules.after old line) given in
    (now, (rules.answer old line, text_of_lines rules (rules.after old line) given, rules.after old line, refl, inl (refl, refl), rest))

-- each line is carried out, or changes nothing
pub carries_out_some : (old new : State) (lines : List (List ℕ)) (text : List ℕ) → Answers session_rules old lines text new → CarriesOutSome session_rules old lines new
carries_out_some = carried_out session_rules
