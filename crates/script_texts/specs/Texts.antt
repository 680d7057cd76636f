-- What a text in memory is, and what a call leaves that places it in its caller's room.
use Rattle.std.specs.Prelude.{◌≡◌, ◌<◌, ◌≤◌, ◌⊎◌, ◌++◌, ℕ, List, drop, length}
use Rattle.scripts.specs.Outputs.{OutputView}
use Rattle.scripts.specs.Statuses.{run_status_number}
use Rattle.script_texts.specs.declared.text.ScriptText.{ScriptText}

-- the bytes and the status of the answer to a script
pub record IsTextOf (answer : OutputView) (made : ScriptText) : Type 0 where
  pub text : made.bytes.items ≡ answer.text
  pub status : made.status ≡ answer.status

-- the text stands at the front, and what follows it is unchanged
abbrev pub IsPlaced : List ℕ → List ℕ → List ℕ → Type 0
IsPlaced text old new = new ≡ text ++ drop (length text) old

-- What a call leaves of the room and of the number that its caller gave, by the answer to its script:
-- the answer's own status with its whole text, 6 where the room is too small, and 3 or 4 where there
-- is no text.
pub record Places (answer : OutputView) (status : ℕ) (out_old out_new : List ℕ)
    (made_old made_new : ℕ)
    : Type 0 where
  pub statuses : (status ≤ 1) ⊎ (status ≡ 6) ⊎ (status ≡ 3) ⊎ (status ≡ 4)
  pub is_status : status ≤ 1 → status ≡ run_status_number answer.status
  pub text : status ≤ 1 → IsPlaced answer.text out_old out_new
  pub too_small : status ≡ 6 → length out_old < length answer.text
  pub unwritten : 2 ≤ status → out_new ≡ out_old
  pub made : (status ≤ 1) ⊎ (status ≡ 6) → made_new ≡ length answer.text
  pub unmade : (status ≡ 3) ⊎ (status ≡ 4) → made_new ≡ made_old
