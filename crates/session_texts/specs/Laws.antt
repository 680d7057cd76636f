-- Statements of laws: what a call leaves that places an answer.
use Rattle.std.specs.Prelude.{◌≡◌, ◌≢◌, ◌≤◌, ◌++◌, ℕ, List, [], drop, length, Option, Some}
use Rattle.session_texts.specs.Placing.{AnswersLine, PlacesAnswer}
use Rattle.session_texts.specs.Sessions.{SessionView, after_line, after_lost_line, answer_to}

-- an answer that fits is placed whole, and the room goes on behind it as it was
abbrev pub AFittingAnswerIsPlaced : Type 0
AFittingAnswerIsPlaced =
    (answer : List ℕ) (status : ℕ) (out new : List ℕ) (n : ℕ)
    → PlacesAnswer answer status out new n → length answer ≤ length out
    → (status ≡ 0) × (new ≡ answer ++ drop (length answer) out) × (n ≡ length answer)

-- two calls with one status, in the same room, leave the same
abbrev pub OneStatusOnePlace : Type 0
OneStatusOnePlace =
    (answer : List ℕ) (status : ℕ) (out new other : List ℕ) (n m : ℕ)
    → PlacesAnswer answer status out new n → PlacesAnswer answer status out other m → (new ≡ other) × (n ≡ m)

-- a line whose answer fits, and that did not lack memory, is carried out, and its answer is placed and kept
abbrev pub AFittingLineIsAnswered : Type 0
AFittingLineIsAnswered =
    (session : SessionView) (line : List ℕ) (status : ℕ) (left : Option SessionView) (out new : List ℕ)
    (made n : ℕ)
    → AnswersLine session line status left out new made n
    → length (answer_to session line) ≤ length out → status ≢ 4
    → (status ≡ 0) × (left ≡ Some (after_line session line))
    × (new ≡ answer_to session line ++ drop (length (answer_to session line)) out)
    × (n ≡ length (answer_to session line))

-- two such calls with one status, in the same room and with the same number before, leave the same
abbrev pub OneStatusOneSession : Type 0
OneStatusOneSession =
    (session : SessionView) (line : List ℕ) (status : ℕ) (left kept : Option SessionView)
    (out new other : List ℕ) (made n m : ℕ)
    → AnswersLine session line status left out new made n
    → AnswersLine session line status kept out other made m
    → (left ≡ kept) × (new ≡ other) × (n ≡ m)

-- a lost answer is none, and its line was carried out all the same
abbrev pub ALostAnswerIsNone : Type 0
ALostAnswerIsNone =
    (session : SessionView) (line : List ℕ)
    → ((after_lost_line session line).answer ≡ [])
    × ((after_lost_line session line).cluster ≡ (after_line session line).cluster)
