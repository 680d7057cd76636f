-- What the page of an answer holds.
use Rattle.std.specs.Prelude.{◌≡◌, ◌<◌, ◌≤◌, ℕ, List, true, false, length}
use Rattle.std.specs.Vec.{vec_capacity}
use Rattle.session_texts.specs.declared.answer_page.AnswerPage.{AnswerPage}

-- all that was printed, unless some was lost; nothing is lost of an answer that fits into the room
pub record HoldsAnswer (page : AnswerPage) (room : ℕ) (printed : List ℕ) : Type 0 where
  pub kept : page.is_lost ≡ false → page.bytes.items ≡ printed
  pub capacity : room ≤ vec_capacity page.bytes
  pub lost : page.is_lost ≡ true → room < length printed
