-- What clap makes of words that are written out.
use Rattle.std.proofs.Common.{◌≡◌, ◌≢◌, ℕ, List, [], ◌∷◌, Some, codes, map, refl, sym, subst, ap, ◌∙◌, inl, inr}
use Rattle.std.specs.Borrow.{Bor}
use Rattle.clap.specs.Kinds.{Kinds}
use Rattle.clap.specs.Words.{App, Text, fault_of, matches_of, new_rule, with_rule}
use Rattle.clap.specs.declared.builder.value_parser.ValueParser.TheVariants.{Names}
use Rattle.clap.specs.declared.error.kind.ErrorKind.{ErrorKind}
use Rattle.clap.specs.declared.error.kind.ErrorKind.TheVariants as kind
use Rattle.clap.proofs.OnLiterals.{clap_on_literals}
use Rattle.command_line.specs.CommandLine.{GivesMode, ModeNames, bare_shape, command_line, mode_of}
use Rattle.command_line.specs.KnownLines.{IsFoldLine, IsRejectedLine, IsThreadsLine, IsTurnsLine}
use Rattle.command_line.specs.declared.mode.Mode.{Mode}
use Rattle.command_line.specs.declared.mode.Mode.TheVariants.{Fold, Turns, Threads}

-- a list of names, and the command line that takes them
abbrev NameList : Type 0
NameList = Bor (List (Bor Text))

abbrev line : NameList → App
line list = with_rule (record { top = bare_shape; subs = [] }) (record (new_rule (codes "mode")) { value_names = 1; parser = Some (Names list) })

abbrev names_at : (list_at fold_at turns_at threads_at : ℕ × ℕ) → NameList
names_at list_at fold_at turns_at threads_at = record {
  ref_ptr = list_at;
  now = record { ref_ptr = fold_at; now = codes "fold" } ∷ record { ref_ptr = turns_at; now = codes "turns" }
      ∷ record { ref_ptr = threads_at; now = codes "threads" } ∷ [];
}

-- what holds of the three names, wherever they lie, holds of the names
of_names : (P : NameList → Type 0) → ((list_at fold_at turns_at threads_at : ℕ × ℕ) → P (names_at list_at fold_at turns_at threads_at))
    → (names : ModeNames) → P names.list
of_names P at names = go names.list.now names.texts
  where
    three : Bor Text → Bor Text → Bor Text → NameList
    three x y z = record { ref_ptr = names.list.ref_ptr; now = x ∷ y ∷ z ∷ [] }

    with_text : Bor Text → Text → Bor Text
    with_text x text = record { ref_ptr = x.ref_ptr; now = text }

    named : (x y z : Bor Text) → codes "fold" ≡ x.now → codes "turns" ≡ y.now → codes "threads" ≡ z.now → P (three x y z)
    named x y z fold turns threads =
        subst (λ (text : Text). P (three (with_text x text) y z)) fold
        (subst (λ (text : Text). P (three (with_text x (codes "fold")) (with_text y text) z)) turns
        (subst (λ (text : Text). P (three (with_text x (codes "fold")) (with_text y (codes "turns")) (with_text z text))) threads
        (at names.list.ref_ptr x.ref_ptr y.ref_ptr z.ref_ptr)))

    go : (xs : List (Bor Text)) → map (λ name. name.now) xs ≡ codes "fold" ∷ codes "turns" ∷ codes "threads" ∷ []
        → P (record { ref_ptr = names.list.ref_ptr; now = xs })
    go [] e = cc
    go (x ∷ []) e = cc
    go (x ∷ y ∷ []) e = cc
    go (x ∷ y ∷ z ∷ []) e =
        let fold : codes "fold" ≡ x.now = cc in
        let turns : codes "turns" ≡ y.now = cc in
        let threads : codes "threads" ≡ z.now = cc in
        named x y z fold turns threads
    go (x ∷ y ∷ z ∷ w ∷ ws) e = cc

-- clap takes the words, and they give this mode
abbrev Gives : NameList → List Text → Mode → Type 0
Gives list words mode = (fault_of (line list) words ≡ []) × (mode_of (matches_of (line list) words) ≡ Some mode)

no_words_give : (list : NameList) → Gives list [] Fold
unfolding clap_on_literals
no_words_give list = (refl, refl)

fold_gives : (list_at fold_at turns_at threads_at : ℕ × ℕ) → Gives (names_at list_at fold_at turns_at threads_at) (codes "fold" ∷ []) Fold
unfolding clap_on_literals
fold_gives list_at fold_at turns_at threads_at = (refl, refl)

turns_gives : (list_at fold_at turns_at threads_at : ℕ × ℕ) → Gives (names_at list_at fold_at turns_at threads_at) (codes "turns" ∷ []) Turns
unfolding clap_on_literals
turns_gives list_at fold_at turns_at threads_at = (refl, refl)

threads_gives : (list_at fold_at turns_at threads_at : ℕ × ℕ) → Gives (names_at list_at fold_at turns_at threads_at) (codes "threads" ∷ []) Threads
unfolding clap_on_literals
threads_gives list_at fold_at turns_at threads_at = (refl, refl)

other_at_refused : (list_at fold_at turns_at threads_at : ℕ × ℕ) → fault_of (line (names_at list_at fold_at turns_at threads_at)) (codes "Threads" ∷ []) ≡ kind.InvalidValue ∷ []
unfolding clap_on_literals
other_at_refused list_at fold_at turns_at threads_at = refl

help_at_refused : (list_at fold_at turns_at threads_at : ℕ × ℕ) → fault_of (line (names_at list_at fold_at turns_at threads_at)) (codes "--help" ∷ []) ≡ kind.DisplayHelp ∷ []
unfolding clap_on_literals
help_at_refused list_at fold_at turns_at threads_at = refl

short_help_at_refused : (list_at fold_at turns_at threads_at : ℕ × ℕ) → fault_of (line (names_at list_at fold_at turns_at threads_at)) (codes "-h" ∷ []) ≡ kind.DisplayHelp ∷ []
unfolding clap_on_literals
short_help_at_refused list_at fold_at turns_at threads_at = refl

-- clap takes no words and `fold` alone, and they give the fold
pub fold_line_gives : (names : ModeNames) (words : List Text) → IsFoldLine words → GivesMode names words Fold
fold_line_gives names words (inl none) = subst (λ (ws : List Text). Gives names.list ws Fold) (sym none) (no_words_give names.list)
fold_line_gives names words (inr fold) =
    subst (λ (ws : List Text). Gives names.list ws Fold) (sym fold)
    (of_names (λ (list : NameList). Gives list (codes "fold" ∷ []) Fold) fold_gives names)

-- clap takes `turns` alone, and it gives its mode
pub turns_line_gives : (names : ModeNames) (words : List Text) → IsTurnsLine words → GivesMode names words Turns
turns_line_gives names words turns =
    subst (λ (ws : List Text). Gives names.list ws Turns) (sym turns)
    (of_names (λ (list : NameList). Gives list (codes "turns" ∷ []) Turns) turns_gives names)

-- clap takes `threads` alone, and it gives its mode
pub threads_line_gives : (names : ModeNames) (words : List Text) → IsThreadsLine words → GivesMode names words Threads
threads_line_gives names words threads =
    subst (λ (ws : List Text). Gives names.list ws Threads) (sym threads)
    (of_names (λ (list : NameList). Gives list (codes "threads" ∷ []) Threads) threads_gives names)

some_fault : (kinds : Kinds) (k : ErrorKind) → kinds ≡ k ∷ [] → kinds ≢ []
some_fault kinds k is none = cc

-- the first fault of a command line of one word, wherever the names lie
first_fault_is : (names : ModeNames) (words : List Text) (word : Text) (k : ErrorKind) → words ≡ word ∷ []
    → ((list_at fold_at turns_at threads_at : ℕ × ℕ) → fault_of (line (names_at list_at fold_at turns_at threads_at)) (word ∷ []) ≡ k ∷ [])
    → fault_of (command_line names) words ≢ []
first_fault_is names words word k is refused = some_fault _ k (ap (fault_of (command_line names)) is
    ∙ of_names (λ (list : NameList). fault_of (line list) (word ∷ []) ≡ k ∷ []) refused names)

-- clap refuses the name of a mode in other letters, and a call for help
pub rejected_line_refused : (names : ModeNames) (words : List Text) → IsRejectedLine words → fault_of (command_line names) words ≢ []
rejected_line_refused names words (inl other) = first_fault_is names words _ kind.InvalidValue other other_at_refused
rejected_line_refused names words (inr (inl help)) = first_fault_is names words _ kind.DisplayHelp help help_at_refused
rejected_line_refused names words (inr (inr help)) = first_fault_is names words _ kind.DisplayHelp help short_help_at_refused
