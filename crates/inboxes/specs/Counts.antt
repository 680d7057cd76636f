-- How many messages were sent and taken.
use Rattle.std.specs.Prelude.{◌≡◌, ℕ, ◌<◌, ◌-◌, ◌^◌, min, List, length, slice_index}
use Rattle.inboxes.specs.declared.views.MessageView.{MessageView}
use Rattle.inboxes.specs.Delivers.{of_proxy}

-- how many these are; a count that has reached the greatest number stays there
abbrev pub counted : List MessageView → ℕ
counted messages = min (length messages) (2 ^ 64 - 1)

-- for each proxy the count of its messages among these
abbrev pub AreCounts : ℕ → List MessageView → List ℕ → Type 0
AreCounts proxies got counts =
    (length counts ≡ proxies)
    × ((proxy : ℕ) → proxy < proxies → slice_index counts proxy ≡ counted (of_proxy proxy got))
