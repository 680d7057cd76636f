-- Cells of a ledger, and stretches of facts about them.
use Rattle.std.proofs.Common.{◌≡◌, refl, sym, subst, ap, ◌∙◌, ℕ, zero, suc, ◌<◌, List, [], ◌∷◌, length, map, arith}
use Rattle.std.proofs.lemmas.List.{length-map}
use Rattle.std.proofs.lemmas.Option.{slice_get-map}
use Rattle.std.specs.Prelude.{option_map, All}
use Rattle.std.specs.List.{slice_get}
use Rattle.std.specs.declared.option.Option.TheVariants.{Some}
use Rattle.model.specs.Journal.{list_at}
use Rattle.agreed_ledger.specs.Cells.{AllHaveRows, Cells, IsLedger, verdict_cells}

-- ---- lists

pub mapped_at : {X Y : Type 0} (f : X → Y) (xs : List X) (i : ℕ) (x : X) → slice_get xs i ≡ Some x → slice_get (map f xs) i ≡ Some (f x)
mapped_at f xs i x at = slice_get-map f xs i ∙ ap (option_map f) at

pub list_at_is : {X : Type 0} (xs : List (List X)) (i : ℕ) (x : List X) → slice_get xs i ≡ Some x → list_at xs i ≡ x
list_at_is [] i x at = absurd (cc)
list_at_is (y ∷ ys) zero x at = cc
list_at_is (y ∷ ys) (suc i) x at = list_at_is ys i x at

-- a list that has an element is there
pub list_at_within : {X : Type 0} (xs : List (List X)) (i row : ℕ) → row < length (list_at xs i) → i < length xs
list_at_within [] i row below = absurd (omega arith)
list_at_within (y ∷ ys) zero row below = omega arith
list_at_within (y ∷ ys) (suc i) row below = let later = list_at_within ys i row below in omega arith

pub list_at_there : {X : Type 0} (xs : List (List X)) (i : ℕ) → i < length xs → slice_get xs i ≡ Some (list_at xs i)
list_at_there [] i below = absurd (omega arith)
list_at_there (y ∷ ys) zero below = refl
list_at_there (y ∷ ys) (suc i) below = list_at_there ys i (omega arith)

-- ---- a ledger

pub verdict_cells_length : (cells : Cells) (r : ℕ) → IsLedger cells → r < cells.config.resolvers → length (verdict_cells cells r) ≡ length cells.records
verdict_cells_length cells r is below =
    is.columns r (verdict_cells cells r) (list_at_there cells.verdicts r (omega (arith, is.resolvers)))

pub all_have_rows : (cells : Cells) → IsLedger cells → AllHaveRows cells
all_have_rows cells is r below = verdict_cells_length cells r is below

-- the names of the cells of a list of columns, which are any lists of cells
module _ {V C : Type 0} (inner : V → List C) (name : C → ℕ) where
  abbrev pub columns_of : List V → List (List ℕ)
  columns_of columns = map (λ (v : V). map name (inner v)) columns

  pub column_within : (cells : List (List ℕ)) (columns : List V) (r row : ℕ) → cells ≡ columns_of columns → row < length (list_at cells r) → r < length columns
  column_within cells columns r row same below =
      let here : row < length (list_at (columns_of columns) r) = subst (λ (c : List (List ℕ)). row < length (list_at c r)) same below in
      omega (arith, list_at_within (columns_of columns) r row here, length-map columns (λ (v : V). map name (inner v)))

  pub column_is : (cells : List (List ℕ)) (columns : List V) (r : ℕ) (v : V) → cells ≡ columns_of columns → slice_get columns r ≡ Some v → list_at cells r ≡ map name (inner v)
  column_is cells columns r v same at =
      ap (λ (c : List (List ℕ)). list_at c r) same
      ∙ list_at_is (columns_of columns) r (map name (inner v)) (mapped_at (λ (v : V). map name (inner v)) columns r v at)

  pub row_within : (cells : List (List ℕ)) (columns : List V) (r row : ℕ) (v : V) → cells ≡ columns_of columns → slice_get columns r ≡ Some v
      → row < length (list_at cells r) → row < length (inner v)
  row_within cells columns r row v same at below =
      omega (arith, below, ap (λ (c : List ℕ). length c) (column_is cells columns r v same at), length-map (inner v) name)

  pub cell_is : (cells : List (List ℕ)) (columns : List V) (r row : ℕ) (v : V) (cell : C) → cells ≡ columns_of columns → slice_get columns r ≡ Some v
      → slice_get (inner v) row ≡ Some cell → slice_get (list_at cells r) row ≡ Some (name cell)
  cell_is cells columns r row v cell same at at_row =
      ap (λ (c : List ℕ). slice_get c row) (column_is cells columns r v same at) ∙ mapped_at name (inner v) row cell at_row

  pub column_lengths : (columns : List V) (n : ℕ) → All (λ (v : V). length (inner v) ≡ n) columns
      → (r : ℕ) (column : List ℕ) → slice_get (columns_of columns) r ≡ Some column → length column ≡ n
  column_lengths [] n all r column at = absurd (cc)
  column_lengths (v ∷ rest) n all zero column at =
      let same : map name (inner v) ≡ column = cc in
      let count : length (inner v) ≡ n = all 0 v (omega arith) in
      ap (λ (c : List ℕ). length c) (sym same) ∙ length-map (inner v) name ∙ count
  column_lengths (v ∷ rest) n all (suc r) column at = column_lengths rest n (λ k d below. all (suc k) d (omega arith)) r column at

pub column_row_below : (cells : Cells) (r row : ℕ) → IsLedger cells → row < length (verdict_cells cells r) → row < length cells.records
column_row_below cells r row is below =
    let there : r < length cells.verdicts = list_at_within cells.verdicts r row below in
    omega (arith, below, verdict_cells_length cells r is (omega (arith, there, is.resolvers)))
