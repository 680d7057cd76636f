-- What a call leaves of the room and of the number that its caller gave, and of the session.
use Rattle.std.specs.Prelude.{◌≡◌, ◌<◌, ◌⊎◌, ℕ, List, length, Option, Some}
use Rattle.script_texts.specs.Texts.{IsPlaced}
use Rattle.session_texts.specs.Sessions.{SessionView, after_line, after_lost_line, answer_to}

-- An answer is placed at the front of the room (status 0), or is longer than the room, which is then
-- unchanged (6). The number is its length.
pub record PlacesAnswer (answer : List ℕ) (status : ℕ) (out_old out_new : List ℕ)
    (made_new : ℕ) :
    Type 0 where
  pub statuses : (status ≡ 0) ⊎ (status ≡ 6)
  pub text : status ≡ 0 → IsPlaced answer out_old out_new
  pub too_small : status ≡ 6 → length out_old < length answer
  pub unwritten : status ≡ 6 → out_new ≡ out_old
  pub made : made_new ≡ length answer

-- What a call leaves that gives a line to a session. The line is carried out once, and its answer placed
-- as above and kept (0, 6); or an allocation failed, and nothing is changed (4); or the line is carried
-- out, and an allocation failed for its answer, which is longer than the room (8).
pub record AnswersLine (session : SessionView) (line : List ℕ) (status : ℕ)
    (session_new : Option SessionView) (out_old out_new : List ℕ) (made_old made_new : ℕ) :
    Type 0 where
  pub statuses : (status ≡ 0) ⊎ (status ≡ 6) ⊎ (status ≡ 4) ⊎ (status ≡ 8)
  pub carried_out : (status ≡ 0) ⊎ (status ≡ 6) → session_new ≡ Some (after_line session line)
  pub placed : (status ≡ 0) ⊎ (status ≡ 6)
      → PlacesAnswer (answer_to session line) status out_old out_new made_new
  pub unchanged : status ≡ 4 → session_new ≡ Some session
  pub lost : status ≡ 8 → session_new ≡ Some (after_lost_line session line)
  pub too_long : status ≡ 8 → length out_old < length (answer_to session line)
  pub unwritten : (status ≡ 4) ⊎ (status ≡ 8) → out_new ≡ out_old
  pub unmade : (status ≡ 4) ⊎ (status ≡ 8) → made_new ≡ made_old
