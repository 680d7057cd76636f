-- Statements of laws: what a call leaves that places a text.
use Rattle.std.specs.Prelude.{◌≡◌, ◌≢◌, ◌<◌, ◌≤◌, ◌++◌, ℕ, List, drop, length}
use Rattle.scripts.specs.Outputs.{OutputView}
use Rattle.scripts.specs.Statuses.{run_status_number}
use Rattle.script_texts.specs.Texts.{Places}

-- two calls with one status, in the same room and with the same number before, leave the same
abbrev pub OneStatusOneOutcome : Type 0
OneStatusOneOutcome =
    (answer : OutputView) (status : ℕ) (out new other : List ℕ) (made n m : ℕ)
    → Places answer status out new made n → Places answer status out other made m → (new ≡ other) × (n ≡ m)

-- A text that fits is placed whole, with the status of its script, and the room goes on behind it as it was; but
-- for a script that is too long (3), and a failed allocation (4).
abbrev pub AFittingTextIsPlaced : Type 0
AFittingTextIsPlaced =
    (answer : OutputView) (status : ℕ) (out new : List ℕ) (made n : ℕ)
    → Places answer status out new made n → length answer.text ≤ length out → status ≢ 3 → status ≢ 4
    → (status ≡ run_status_number answer.status) × (new ≡ answer.text ++ drop (length answer.text) out)
    × (n ≡ length answer.text)

-- where it does not fit, the room is as it was, and the caller learns the length
abbrev pub AShortRoomTellsTheLength : Type 0
AShortRoomTellsTheLength =
    (answer : OutputView) (status : ℕ) (out new : List ℕ) (made n : ℕ)
    → Places answer status out new made n → length new ≡ length out → length out < length answer.text
    → status ≢ 3 → status ≢ 4 → (status ≡ 6) × (new ≡ out) × (n ≡ length answer.text)
