-- Values that meet the words of the laws, and values that do not.
use Rattle.std.proofs.Common.{◌≡◌, refl, sym, ap, ◌∙◌, ℕ, List, [], ◌∷◌, inl, inr}
use Rattle.sessions.specs.Answers.{IsSomeOf, out_of_memory}
use Rattle.sessions.specs.Laws.{AnswersWithoutMemory, NoneIsOutOfMemory, ReadsAreThese, SomeOfTwoLines, first_line, next_line}

not_of_one : (a b : List ℕ) (more : List (List ℕ)) (line : List ℕ) → IsSomeOf (a ∷ b ∷ more) (line ∷ []) → ⊥
not_of_one a b more line (inl none) = cc
not_of_one a b more line (inr (rest, is, none)) = cc

of_one : (a line : List ℕ) → IsSomeOf (a ∷ []) (line ∷ []) → a ≡ line
of_one a line (inl none) = absurd (let e : ⊥ = cc in e)
of_one a line (inr (rest, is, none)) = cc

turned : IsSomeOf (next_line ∷ first_line ∷ []) (first_line ∷ next_line ∷ []) → ⊥
turned (inl later) = not_of_one next_line first_line [] next_line later
turned (inr (rest, is, later)) = cc

twice : IsSomeOf (first_line ∷ first_line ∷ []) (first_line ∷ next_line ∷ []) → ⊥
twice (inl later) = not_of_one first_line first_line [] next_line later
twice (inr (rest, is, later)) =
    let same : rest ≡ first_line ∷ [] = cc in
    let one : first_line ≡ next_line = of_one first_line next_line (rw same at later) in
    cc

another : IsSomeOf ((1 ∷ next_line) ∷ []) (first_line ∷ next_line ∷ []) → ⊥
another (inl later) = let one : 1 ∷ next_line ≡ next_line = of_one (1 ∷ next_line) next_line later in cc
another (inr (rest, is, later)) = cc

pub some_of_two : SomeOfTwoLines
some_of_two = record {
  both = inr (next_line ∷ [], refl, inr ([], refl, refl));
  first = inr ([], refl, inl refl);
  next = inl (inr ([], refl, refl));
  none = inl (inl refl);
  turned_round = turned;
  twice = twice;
  another = another;
}

no_answer : [] ≡ out_of_memory → ⊥
no_answer is = cc

pub answers_without_memory : AnswersWithoutMemory
answers_without_memory = record { others = (no_answer, (no_answer, tt)); at_the_end = λ all. all.1.0 refl }

pub reads_are_these : ReadsAreThese
reads_are_these = record { bytes = λ bytes. tt; end = tt; written = λ bytes is. is }
