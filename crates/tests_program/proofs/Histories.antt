-- The history of a device in memory.
use Rattle.std.proofs.Common.{◌≡◌, ℕ, List, [], ◌∷◌, ◌++◌, refl, ap, ◌∙◌, sym, take, drop, take-append-drop}
use Rattle.tests_program.specs.Rehearsals.{event_of, history_of}
use Rattle.tests_program.specs.declared.memory_device.Call.{Call}

-- one more call
pub history_grown : (calls : List Call) (call : Call) → history_of (calls ++ call ∷ []) ≡ event_of call ∷ history_of calls
history_grown [] call = refl
history_grown (first ∷ calls) call = ap (λ l. l ++ event_of first ∷ []) (history_grown calls call)

-- what came stood before what is left
pub came_off : (old came left : List ℕ) (n : ℕ) → came ≡ take n old → left ≡ drop n old → old ≡ came ++ left
came_off old came left n front rest = sym (take-append-drop n old) ∙ ap (λ l. take n old ++ l) (sym rest) ∙ ap (λ l. l ++ left) (sym front)
