-- What is known of a script that was read.
use Rattle.std.proofs.Common.{◌≡◌, ◌∙◌, ℕ, Bool, true, false, ◌&&◌, suc, List, [], ◌∷◌, length, refl, sym, ap, nat_le, nat_eq}
use Rattle.std.specs.Prelude.{Option, Some, None, Result, Ok, Err}
use Rattle.std.specs.List.{list_all}
use Rattle.std.proofs.lemmas.Bool.{leb-true, eqb-true}
use Rattle.serde_json.specs.Data.{Data}
use Rattle.model.specs.Configs.{is_from_one_to}
use Rattle.model.specs.Stamps.{AdmittedTransaction}
use Rattle.agreed_ledger.specs.Cells.{ledger_limit}
use Rattle.scripts.specs.BatchChecks.{checked_transactions}
use Rattle.scripts.specs.Checks.{◌>>=◌, each_checked, with_first}
use Rattle.scripts.specs.Scripts.{checked_data, checked_raw, read_as}
use Rattle.scripts.specs.Values.{value_of}
use Rattle.scripts.specs.declared.script_fault.ScriptFault.{ScriptFault}
use Rattle.scripts.specs.declared.script_fault.ScriptFault.TheVariants as faults
use Rattle.threads_scripts.specs.Checks.{checked_move, checked_script, checked_work, has_destination, with_resolvers}
use Rattle.threads_scripts.specs.Limits.{is_within_limits, script_shape}
use Rattle.threads_scripts.specs.Runnable.{IsRunnable}
use Rattle.threads_scripts.specs.Shapes.{threads_fields_shape}
use Rattle.threads_scripts.specs.declared.script.RawThreads.{RawThreads}
use Rattle.threads_scripts.specs.declared.script.ThreadsScript.{ThreadsScript}
use Rattle.threads_scripts.specs.declared.script.UndatedMove.{UndatedMove}

-- ---- lists

one_more : {Y : Type 0} (first : Result Y ScriptFault) (rest : Result (List Y) ScriptFault) (ys : List Y) (n : ℕ)
    → (first >>= (λ y. with_first y rest)) ≡ Ok ys → ((zs : List Y) → rest ≡ Ok zs → length zs ≡ n) → length ys ≡ suc n
one_more (Err fault) rest ys n is rests = absurd (cc)
one_more (Ok y) (Err fault) ys n is rests = absurd (cc)
one_more (Ok y) (Ok zs) ys n is rests =
    let same : ys ≡ y ∷ zs = cc in
    rw same (ap (λ m. suc m) (rests zs refl))

-- a checked list is as long as it was
length-checked : {X Y : Type 0} (check : X → Result Y ScriptFault) (xs : List X) (ys : List Y) → each_checked check xs ≡ Ok ys → length ys ≡ length xs
length-checked check [] ys is =
    let same : ys ≡ [] = cc in
    rw same refl
length-checked check (x ∷ xs) ys is = one_more (check x) (each_checked check xs) ys (length xs) is (length-checked check xs)

-- ---- checks

abbrev script_from : RawThreads → List UndatedMove → List (List (List AdmittedTransaction)) → ThreadsScript
script_from raw moves work = record { config = raw.config; rows = raw.rows; moves = moves; work = work; ask = raw.ask }

both_of : (a b : Bool) → (a && b) ≡ true → (a ≡ true) × (b ≡ true)
both_of true b is = (refl, is)
both_of false b is = let none : false ≡ true = is in cc

with_these : (raw : RawThreads) (script : ThreadsScript) (moves : List UndatedMove) (work : List (List (List AdmittedTransaction))) (b : Bool)
    → is_within_limits raw ≡ true → length work ≡ length raw.work → list_all (has_destination raw.config.resolvers) moves ≡ b
    → with_resolvers (script_from raw moves work) ≡ Ok script → IsRunnable script
with_these raw script moves work false within long some is =
    let refused : with_resolvers (script_from raw moves work) ≡ Err faults.NoSuchResolver = rw some refl in
    absurd (cc)
with_these raw script moves work true within long all is =
    let passed : with_resolvers (script_from raw moves work) ≡ Ok (script_from raw moves work) = rw all refl in
    let same : script ≡ script_from raw moves work = cc in
    let (rows, lists) = both_of (is_from_one_to ledger_limit raw.rows) (nat_eq (length raw.work) raw.config.proxies) within in
    let (above, below) = both_of (nat_le 1 raw.rows) (nat_le raw.rows ledger_limit) rows in
    rw same (record {
      rows = (leb-true 1 raw.rows above, leb-true raw.rows ledger_limit below);
      work = long ∙ eqb-true (length raw.work) raw.config.proxies lists;
      moves = all;
    })

with_checked : (raw : RawThreads) (script : ThreadsScript) (moves : Result (List UndatedMove) ScriptFault) (work : Result (List (List (List AdmittedTransaction))) ScriptFault)
    → is_within_limits raw ≡ true → checked_work raw.work ≡ work
    → (moves >>= (λ ms. work >>= (λ w. with_resolvers (script_from raw ms w)))) ≡ Ok script → IsRunnable script
with_checked raw script (Err fault) work within worked is = absurd (cc)
with_checked raw script (Ok ms) (Err fault) within worked is = absurd (cc)
with_checked raw script (Ok ms) (Ok w) within worked is =
    with_these raw script ms w (list_all (has_destination raw.config.resolvers) ms) within (length-checked (each_checked checked_transactions) raw.work w worked) refl is

checked_runnable : (raw : RawThreads) (script : ThreadsScript) → is_within_limits raw ≡ true → checked_script raw ≡ Ok script → IsRunnable script
checked_runnable raw script within is = with_checked raw script (each_checked checked_move raw.moves) (checked_work raw.work) within refl is

-- ---- the whole script

with_fields : (d : Data) (script : ThreadsScript) (f : Option RawThreads) → threads_fields_shape d ≡ f → checked_raw checked_script (script_shape d) ≡ Ok script → IsRunnable script
with_fields d script None none is =
    let refused : checked_raw checked_script (script_shape d) ≡ Err faults.BadShape = rw none refl in
    absurd (cc)
with_fields d script (Some raw) some is = by (is_within_limits raw) refl
  where
    by : (b : Bool) → is_within_limits raw ≡ b → IsRunnable script
    by true within =
        let passed : checked_raw checked_script (script_shape d) ≡ checked_script raw = rw (some, within) refl in
        checked_runnable raw script within (sym passed ∙ is)
    by false outside =
        let refused : checked_raw checked_script (script_shape d) ≡ Err faults.BadShape = rw (some, outside) refl in
        absurd (cc)

with_data : (script : ThreadsScript) (value : Option Data) → checked_data script_shape checked_script value ≡ Ok script → IsRunnable script
with_data script None is = absurd (cc)
with_data script (Some d) is = with_fields d script (threads_fields_shape d) refl is

-- a script that was read can be run
pub read_runnable : (bytes : List ℕ) (script : ThreadsScript) → read_as script_shape checked_script bytes ≡ Ok script → IsRunnable script
read_runnable bytes script is = with_data script (value_of bytes) is
