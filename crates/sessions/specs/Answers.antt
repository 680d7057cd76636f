-- The answers to lines, one after another.
use Rattle.std.specs.Prelude.{◌≡◌, ◌⊎◌, ℕ, List, [], ◌∷◌, ◌++◌, codes, flat_map, fold}

-- how lines are answered: the text for a line in a state, and the state after it
pub record Rules (S : Type 0) : Type 0 where
  pub answer : S → List ℕ → List ℕ
  pub after : S → List ℕ → S

-- the answer to a line for which an allocation failed: `out of memory`, and an empty line
abbrev pub out_of_memory : List ℕ
out_of_memory = codes "out of memory" ++ 10 ∷ 10 ∷ []

-- a line is carried out and answered by the rules; or an allocation failed, and the state stays
abbrev pub Answer : {S : Type 0} → Rules S → S → List ℕ → List ℕ → S → Type 0
Answer rules old line text new =
    ((text ≡ rules.answer old line) × (new ≡ rules.after old line))
    ⊎ ((text ≡ out_of_memory) × (new ≡ old))

-- from the state `old`, the text answers the lines one after another, and leaves the state `new`
abbrev pub Answers : {S : Type 0} → Rules S → S → List (List ℕ) → List ℕ → S → Type 0
Answers rules old [] text new = (text ≡ []) × (new ≡ old)
Answers {S} rules old (line ∷ lines) text new =
    (first : List ℕ) × (rest : List ℕ) × (mid : S) × (text ≡ first ++ rest)
    × Answer rules old line first mid × Answers rules mid lines rest new

-- ---- if no allocation fails

-- the answers to the lines, one for each
abbrev pub answers_to : {S : Type 0} → Rules S → S → List (List ℕ) → List (List ℕ)
answers_to rules old [] = []
answers_to rules old (line ∷ lines) =
    rules.answer old line ∷ answers_to rules (rules.after old line) lines

-- their text
abbrev pub text_of_lines : {S : Type 0} → Rules S → S → List (List ℕ) → List ℕ
text_of_lines rules old lines = flat_map (λ answer. answer) (answers_to rules old lines)

-- ---- the state after them

-- some of these lines, in their order
abbrev pub IsSomeOf : List (List ℕ) → List (List ℕ) → Type 0
IsSomeOf kept [] = kept ≡ []
IsSomeOf kept (line ∷ lines) =
    IsSomeOf kept lines ⊎ ((rest : List (List ℕ)) × (kept ≡ line ∷ rest) × IsSomeOf rest lines)

-- whatever was answered `out of memory`: the state is that after some of the lines, carried out in order
abbrev pub CarriesOutSome : {S : Type 0} → Rules S → S → List (List ℕ) → S → Type 0
CarriesOutSome rules old lines new =
    (kept : List (List ℕ)) × IsSomeOf kept lines × (new ≡ fold rules.after old kept)
