-- Values and lists, as they are read and checked.
use Rattle.std.proofs.Common.{◌≡◌, ◌++◌, ◌∷◌, [], suc, List, length, refl, ap, ◌≢◌}
use Rattle.std.specs.Prelude.{Option, None, option_map, Result, Ok, Err, String}
use Rattle.std.specs.declared.alloc.Global.{Global}
use Rattle.serde_json.specs.View.{items_view, members_view}
use Rattle.serde_json.specs.declared.value.Value.{Value}
use Rattle.scripts.specs.Shapes.{count_members, pair_of}
use Rattle.scripts.specs.declared.script_fault.ScriptFault.{ScriptFault}

-- what was read, behind what was read before
abbrev pub read_behind : {X : Type 0} → List X → Option (List X) → Option (List X)
read_behind front read = option_map (λ xs. front ++ xs) read

-- what was checked, behind what was checked before
abbrev pub checked_behind : {X : Type 0} → List X → Result (List X) ScriptFault → Result (List X) ScriptFault
checked_behind front (Ok xs) = Ok (front ++ xs)
checked_behind front (Err fault) = Err fault

-- an object's fields are as many as its entries
pub count_members-members_view : (ms : List (String Global × Value)) → count_members (members_view ms) ≡ length ms
count_members-members_view [] = refl
count_members-members_view (m ∷ ms) = ap (λ n. suc n) (count_members-members_view ms)

-- a list of another length is no pair
pub no_pair : (values : List Value) → length values ≢ 2 → pair_of (items_view values) ≡ None
no_pair [] other = refl
no_pair (a ∷ []) other = refl
no_pair (a ∷ b ∷ []) other = absurd (other refl)
no_pair (a ∷ b ∷ c ∷ values) other = refl
