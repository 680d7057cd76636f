-- Checks of a list, item by item.
use Rattle.std.proofs.Common.{◌≡◌, ◌++◌, ◌∷◌, [], List, refl, ap}
use Rattle.std.specs.Prelude.{Result, Ok, Err}
use Rattle.scripts.specs.Checks.{◌>>=◌, each_checked, with_first}
use Rattle.scripts.specs.declared.script_fault.ScriptFault.{ScriptFault}

more_behind : {Y : Type 0} (z : Y) (ys : List Y) (y : Y) (rest after : Result (List Y) ScriptFault)
    → ((zs : List Y) → rest ≡ Ok zs → after ≡ Ok (zs ++ y ∷ [])) → with_first z rest ≡ Ok ys → with_first z after ≡ Ok (ys ++ y ∷ [])
more_behind z ys y (Err fault) after goes whole = absurd (cc)
more_behind z ys y (Ok zs) after goes whole = rw (goes zs refl) (ap (with_last y) whole)
  where
    with_last : {Y : Type 0} → Y → Result (List Y) ScriptFault → Result (List Y) ScriptFault
    with_last y (Ok found) = Ok (found ++ y ∷ [])
    with_last y (Err fault) = Err fault

behind_one : {Y : Type 0} (said : Result Y ScriptFault) (ys : List Y) (y : Y) (rest after : Result (List Y) ScriptFault)
    → ((zs : List Y) → rest ≡ Ok zs → after ≡ Ok (zs ++ y ∷ [])) → (said >>= (λ z. with_first z rest)) ≡ Ok ys → (said >>= (λ z. with_first z after)) ≡ Ok (ys ++ y ∷ [])
behind_one (Err fault) ys y rest after goes whole = absurd (cc)
behind_one (Ok z) ys y rest after goes whole = more_behind z ys y rest after goes whole

only_one : {Y : Type 0} (ys : List Y) (y : Y) (said : Result Y ScriptFault) → said ≡ Ok y → ◌≡◌ {A = Result (List Y) ScriptFault} (Ok []) (Ok ys) → (said >>= (λ z. with_first z (Ok []))) ≡ Ok (ys ++ y ∷ [])
only_one [] y said is none = rw is refl
only_one (z ∷ ys) y said is none = absurd (cc)

-- one more item of a list is checked
pub checked_turn : {X Y : Type 0} (check : X → Result Y ScriptFault) (xs : List X) (ys : List Y) (x : X) (y : Y)
    → each_checked check xs ≡ Ok ys → check x ≡ Ok y → each_checked check (xs ++ x ∷ []) ≡ Ok (ys ++ y ∷ [])
checked_turn check [] ys x y before is = only_one ys y (check x) is before
checked_turn check (first ∷ xs) ys x y before is =
    behind_one (check first) ys y (each_checked check xs) (each_checked check (xs ++ x ∷ [])) (λ zs read. checked_turn check xs zs x y read is) before
