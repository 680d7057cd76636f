-- What was printed on a page.
use Rattle.std.specs.Prelude.{ℕ, List, ◌++◌}

-- Between two states of a page this text was printed: whatever had been printed since any beginning, the
-- text now stands after it.
pub record Prints {P O : Type 0} (has_printed : P → O → List ℕ → Type 0) (old new : P)
    (text : List ℕ) : Type 0 where
  pub more : (beginning : O) (before : List ℕ) → has_printed old beginning before
      → has_printed new beginning (before ++ text)
