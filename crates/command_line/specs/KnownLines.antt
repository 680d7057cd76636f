-- Command lines that are written out.
use Rattle.std.specs.Prelude.{◌≡◌, ◌⊎◌, ◌∷◌, List, [], codes}
use Rattle.clap.specs.Words.{Text}

-- the words of a command line that folds: none, or `fold` alone
abbrev pub IsFoldLine : List Text → Type 0
IsFoldLine words = (words ≡ []) ⊎ (words ≡ codes "fold" ∷ [])

-- the words of a command line that carries out events: `turns` alone
abbrev pub IsTurnsLine : List Text → Type 0
IsTurnsLine words = words ≡ codes "turns" ∷ []

-- the words of a command line that commits batches in threads: `threads` alone
abbrev pub IsThreadsLine : List Text → Type 0
IsThreadsLine words = words ≡ codes "threads" ∷ []

-- the words of a command line that is rejected: the name of a mode in other letters, or a call for
-- help
abbrev pub IsRejectedLine : List Text → Type 0
IsRejectedLine words = (words ≡ codes "Threads" ∷ [])
    ⊎ (words ≡ codes "--help" ∷ []) ⊎ (words ≡ codes "-h" ∷ [])

-- which command lines of one word fold, carry out events, commit in threads, or are rejected; no words
-- fold
pub record KnownLinesAreThese : Type 0 where
  pub no_words : IsFoldLine []
  pub fold : IsFoldLine (codes "fold" ∷ [])
  pub turns : IsTurnsLine (codes "turns" ∷ [])
  pub threads : IsThreadsLine (codes "threads" ∷ [])
  pub other_letters : IsRejectedLine (codes "Threads" ∷ [])
  pub help : IsRejectedLine (codes "--help" ∷ []) × IsRejectedLine (codes "-h" ∷ [])
  pub turns_is_no_fold : IsFoldLine (codes "turns" ∷ []) → ⊥
  pub twice_is_no_fold : IsFoldLine (codes "fold" ∷ codes "fold" ∷ []) → ⊥
  pub fold_is_no_rejection : IsRejectedLine (codes "fold" ∷ []) → ⊥
