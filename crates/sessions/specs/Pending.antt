-- A line that is not whole yet.
use Rattle.std.specs.Prelude.{◌≡◌, ◌<◌, ℕ, List, length, true, false}
use Rattle.sessions.specs.declared.pending.Pending.{Pending}

-- the bytes of the line; or, where there was no memory for them, that there are some
pub record Holds (pending : Pending) (open_line : List ℕ) : Type 0 where
  pub bytes : pending.lost ≡ false → pending.bytes.items ≡ open_line
  pub some : pending.lost ≡ true → 0 < length open_line
