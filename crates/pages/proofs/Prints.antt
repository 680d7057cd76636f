-- Texts that are printed one after another.
use Rattle.std.proofs.Common.{◌≡◌, ℕ, List, [], ◌++◌, append_assoc, append-nil, sym, subst}
use Rattle.pages.specs.Printing.{Prints}

pub prints_nothing : {P O : Type 0} {has_printed : P → O → List ℕ → Type 0} (page : P) → Prints has_printed page page []
prints_nothing {has_printed = has_printed} page =
    record { more = λ beginning before printed. subst (has_printed page beginning) (sym (append-nil before)) printed }

-- a text, and then another
pub prints_both : {P O : Type 0} {has_printed : P → O → List ℕ → Type 0} {old mid new : P} {first second : List ℕ}
    → Prints has_printed old mid first → Prints has_printed mid new second → Prints has_printed old new (first ++ second)
prints_both {has_printed = has_printed} {new = new} {first = first} {second = second} one other =
    record {
      more = λ beginning before printed.
          subst (has_printed new beginning) (append_assoc before first second) (other.more beginning (before ++ first) (one.more beginning before printed));
    }

-- the same text, otherwise written
pub prints_as : {P O : Type 0} {has_printed : P → O → List ℕ → Type 0} {old new : P} {first second : List ℕ}
    → Prints has_printed old new first → first ≡ second → Prints has_printed old new second
prints_as {has_printed = has_printed} {old = old} {new = new} printed same = subst (Prints has_printed old new) same printed

-- ---- loops

-- of a whole text all was printed but for what is left
pub record Leaves {P O : Type 0} (has_printed : P → O → List ℕ → Type 0) (start now : P) (left whole : List ℕ) : Type 0 where
  pub ends : (last : P) → Prints has_printed now last left → Prints has_printed start last whole

pub leaves_all : {P O : Type 0} {has_printed : P → O → List ℕ → Type 0} (page : P) (whole : List ℕ) → Leaves has_printed page page whole whole
leaves_all page whole = record { ends = λ last printed. printed }

-- a beginning of what is left was printed
pub leaves_less : {P O : Type 0} {has_printed : P → O → List ℕ → Type 0} {start now next : P} {first left rest whole : List ℕ}
    → Leaves has_printed start now left whole → Prints has_printed now next first → left ≡ first ++ rest → Leaves has_printed start next rest whole
leaves_less {has_printed = has_printed} {now = now} leaves printed split =
    record { ends = λ last others. leaves.ends last (prints_as (prints_both printed others) (sym split)) }

-- nothing is left
pub leaves_none : {P O : Type 0} {has_printed : P → O → List ℕ → Type 0} {start now : P} {left whole : List ℕ}
    → Leaves has_printed start now left whole → left ≡ [] → Prints has_printed start now whole
leaves_none {now = now} leaves none = leaves.ends now (prints_as (prints_nothing now) (sym none))
