-- Mutations that come in the order of their transactions, as they are printed.
use Rattle.std.proofs.Common.{◌≡◌, ◌≢◌, ◌∙◌, ◌+◌, ◌<◌, ◌≤◌, ◌++◌, ◌∷◌, [], ℕ, suc, List, true, false, nat_le, nat_eq, refl, sym, ap, ap₂, arith, add-one}
use Rattle.std.specs.List.{flat_map}
use Rattle.std.proofs.lemmas.Bool.{and_from, and_parts, eq-eqb, le-leb, leb-true, ne_eqb}
use Rattle.model.specs.declared.outcome.Outcome.{Outcome}
use Rattle.model.specs.declared.outcome.Tagged.{Tagged}
use Rattle.pages.specs.Printing.{Prints}
use Rattle.pages.proofs.Prints.{Leaves, leaves_all, leaves_less, leaves_none}
use Rattle.turns_run.specs.Lines.{mutation_text, mutations_of, transaction_line, transactions_text}
use Rattle.turns_run.specs.OrderOfMutations.{IsAfter, are_in_order}

-- the text of the mutations of transaction n
abbrev pub its_text : ℕ → List Tagged → List ℕ
its_text n tagged = flat_map mutation_text (mutations_of n tagged)

-- the mutations of transaction n were printed up to `later`
pub record HasPrinted {P O : Type 0} (has_printed : P → O → List ℕ → Type 0) (n : ℕ) (tagged later : List Tagged) (start now : P) : Type 0 where
  pub printed : Leaves has_printed start now (its_text n later) (its_text n tagged)
  pub in_order : are_in_order n later ≡ true
  pub all : (k : ℕ) → n < k → mutations_of k later ≡ mutations_of k tagged

-- none was printed
pub printed_none : {P O : Type 0} {has_printed : P → O → List ℕ → Type 0} {n : ℕ} {tagged : List Tagged} {start : P} → are_in_order n tagged ≡ true → HasPrinted has_printed n tagged tagged start start
printed_none {n = n} {tagged = tagged} {start = start} ordered = record { printed = leaves_all start (its_text n tagged); in_order = ordered; all = λ k above. refl }

-- one more was printed
pub printed_one : {P O : Type 0} {has_printed : P → O → List ℕ → Type 0} {n : ℕ} {tagged later rest : List Tagged} {first : Tagged} {start now new : P}
    → HasPrinted has_printed n tagged later start now → later ≡ first ∷ rest → first.number ≡ n → Prints has_printed now new (mutation_text first) → HasPrinted has_printed n tagged rest start new
printed_one {n = n} {tagged = tagged} {later = later} {rest = rest} {first = first} so_far split its more =
    let yes : nat_eq first.number n ≡ true = eq-eqb first.number n its in
    let text : its_text n later ≡ mutation_text first ++ its_text n rest = rw split (rw yes refl) in
    let ordered : are_in_order n (first ∷ rest) ≡ true = rw split at so_far.in_order in
    let parts = and_parts (nat_le n first.number) (are_in_order first.number rest) ordered in
    record {
      printed = leaves_less so_far.printed more text;
      in_order = rw its at parts.1;
      all = λ k above. others k above (rw split at (so_far.all k above));
    }
  where
    others : (k : ℕ) → n < k → mutations_of k (first ∷ rest) ≡ mutations_of k tagged → mutations_of k rest ≡ mutations_of k tagged
    others k above is =
        let no : nat_eq first.number k ≡ false = ne_eqb first.number k (λ same. omega (arith, same)) in
        rw no at is

-- mutations in order, all of transactions after n
none_of : (n least : ℕ) (tagged : List Tagged) → n < least → are_in_order least tagged ≡ true → mutations_of n tagged ≡ []
none_of n least [] below ordered = refl
none_of n least (first ∷ rest) below ordered =
    let parts = and_parts (nat_le least first.number) (are_in_order first.number rest) ordered in
    let reached : least ≤ first.number = leb-true least first.number parts.0 in
    let further : n < first.number = omega arith in
    let no : nat_eq first.number n ≡ false = ne_eqb first.number n (λ same. omega (arith, same)) in
    rw no (none_of n first.number rest further parts.1)

-- all mutations were printed
pub printed_all : {P O : Type 0} {has_printed : P → O → List ℕ → Type 0} {n : ℕ} {tagged later : List Tagged} {start now : P} → HasPrinted has_printed n tagged later start now → later ≡ []
    → Prints has_printed start now (its_text n tagged) × IsAfter n tagged later
printed_all {n = n} so_far ended =
    (leaves_none so_far.printed (ap (its_text n) ended), record { in_order = rw ended refl; all = so_far.all })

-- the next mutation is of another transaction
pub printed_its : {P O : Type 0} {has_printed : P → O → List ℕ → Type 0} {n : ℕ} {tagged later rest : List Tagged} {first : Tagged} {start now : P}
    → HasPrinted has_printed n tagged later start now → later ≡ first ∷ rest → first.number ≢ n
    → Prints has_printed start now (its_text n tagged) × IsAfter n tagged later
printed_its {n = n} {later = later} {rest = rest} {first = first} so_far split other =
    let front : are_in_order n (first ∷ rest) ≡ true = rw split at so_far.in_order in
    let parts = and_parts (nat_le n first.number) (are_in_order first.number rest) front in
    let reached : n ≤ first.number = leb-true n first.number parts.0 in
    let further : suc n ≤ first.number = omega (arith, other) in
    let ordered : are_in_order (suc n) (first ∷ rest) ≡ true = and_from (nat_le (suc n) first.number) (are_in_order first.number rest) (le-leb (suc n) first.number further) parts.1 in
    let below : n < suc n = omega arith in
    let none : mutations_of n (first ∷ rest) ≡ [] = none_of n (suc n) (first ∷ rest) below ordered in
    let text : its_text n later ≡ [] = ap (its_text n) split ∙ ap (λ its. flat_map mutation_text its) none in
    let later_ordered : are_in_order (suc n) later ≡ true = rw split ordered in
    (leaves_none so_far.printed text, record { in_order = later_ordered; all = so_far.all })

-- the later transactions have the same lines
same_lines : (n : ℕ) (tagged later : List Tagged) → ((k : ℕ) → n ≤ k → mutations_of k later ≡ mutations_of k tagged) → (outcomes : List Outcome)
    → transactions_text later n outcomes ≡ transactions_text tagged n outcomes
same_lines n tagged later all [] = refl
same_lines n tagged later all (outcome ∷ outcomes) =
    let here : n ≤ n = omega arith in
    ap₂ (λ its others. (transaction_line n outcome ++ flat_map mutation_text its) ++ others) (all n here)
    (same_lines (suc n) tagged later (λ k above. all k (let reached : n ≤ k = omega arith in reached)) outcomes)

-- the text from a transaction on is its own and that of the later ones
pub next_transaction : (n : ℕ) (tagged later : List Tagged) (outcome : Outcome) (outcomes all : List Outcome) → all ≡ outcome ∷ outcomes → IsAfter n tagged later
    → transactions_text tagged n all ≡ (transaction_line n outcome ++ its_text n tagged) ++ transactions_text later (n + 1) outcomes
next_transaction n tagged later outcome outcomes all split after =
    let same : transactions_text later (suc n) outcomes ≡ transactions_text tagged (suc n) outcomes = same_lines (suc n) tagged later (λ k above. after.all k (let reached : n < k = omega arith in reached)) outcomes in
    rw (split, add-one) (ap (λ others. (transaction_line n outcome ++ its_text n tagged) ++ others) (sym same))
