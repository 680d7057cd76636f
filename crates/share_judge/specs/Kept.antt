-- What a history of writes keeps.
use Rattle.std.specs.Prelude.{◌≡◌, ◌≤◌, List}
use Rattle.system_keys.specs.Keys.{Key}
use Rattle.model.specs.Numbers.{Version}
use Rattle.share_judge.specs.Steps.{Start, AreRising, last_from, last_of_all}

-- The keys of the starts rise, past the last start there is no version, no key has a version above
-- the version judged last, and none above that one was dropped.
pub record AreKept (last dropped : Version) (starts : List Start) : Type 0 where
  pub rising : AreRising starts
  pub past : last_of_all 0 starts ≡ 0
  pub up_to : (key : Key) → last_from 0 starts key ≤ last
  pub dropped_up_to : dropped ≤ last
