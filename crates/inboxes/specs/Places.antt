-- Which channel an end and a pass belong to.
use Rattle.std.specs.Prelude.{◌≡◌, ℕ, List, [], slice_index_or}
use Rattle.atomic_table.specs.Seated.{TableId}
use Rattle.atomic_table.specs.declared.badge.Badge.{Badge}
use Rattle.crossbeam_channel.specs.declared.flavors.array.Key.{Key}
use Rattle.crossbeam_channel.specs.declared.flavors.array.Doing.{Doing}
use Rattle.crossbeam_channel.specs.declared.flavors.array.Rows.{Rows}
use Rattle.crossbeam_channel.specs.Claims.{Pass, view, no_key}
use Rattle.inboxes.specs.declared.views.MessageView.{MessageView}
use Rattle.inboxes.specs.declared.views.View.{View}

-- the names of a channel: that of its table of stamps, and that of its table of messages
pub record Place : Type 0 where
  pub table : TableId
  pub key : Badge (Key MessageView)

-- a place that is no channel's
abbrev pub no_place : Place
no_place = record { table = (no_key {X = MessageView}).table_id; key = no_key {X = MessageView} }

-- the place of the inbox of a resolver
abbrev pub place_at : List Place → ℕ → Place
place_at places resolver = slice_index_or places resolver no_place

-- what a pass knows
abbrev pub known : Pass MessageView View → View
known hand = view hand

-- the pass is one of this channel, and idle
abbrev pub IsHandOf : Place → Pass MessageView View → Type 0
IsHandOf place hand =
    (hand.table_id ≡ place.table) × (hand.me.0.of ≡ place.key) × (hand.me.1 ≡ [])

-- the place of a channel
abbrev pub place_of : {Q M L A : Type 0}
    → Rows (Badge (Key MessageView)) (Doing MessageView View) Q M (Key MessageView) L A → Place
place_of ring = record { table = ring.stamps.shared.table_id; key = ring.stamps.shared.key }
