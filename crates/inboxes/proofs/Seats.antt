-- A pass and a channel of one place belong together.
use Rattle.std.proofs.Common.{◌≡◌, sym, ap, ◌∙◌}
use Rattle.atomic_table.specs.declared.badge.Badge.{Badge}
use Rattle.crossbeam_channel.specs.declared.flavors.array.Key.{Key}
use Rattle.crossbeam_channel.specs.declared.flavors.array.Doing.{Doing}
use Rattle.crossbeam_channel.specs.declared.flavors.array.Rows.{Rows}
use Rattle.crossbeam_channel.specs.Claims.{Pass, IsKeyed, IsSeatAt}
use Rattle.inboxes.specs.declared.views.MessageView.{MessageView}
use Rattle.inboxes.specs.declared.views.View.{View}
use Rattle.inboxes.specs.Places.{Place, IsHandOf, place_of}

pub seat_at : {Q M L A : Type 0} (place : Place)
    (ring : Rows (Badge (Key MessageView)) (Doing MessageView View) Q M (Key MessageView) L A) (hand : Pass MessageView View)
    → place_of ring ≡ place → IsKeyed ring → IsHandOf place hand → IsSeatAt ring hand
seat_at place ring hand is keyed of = (
  of.0 ∙ sym (ap (λ (p : Place). p.table) is),
  of.1 ∙ sym (ap (λ (p : Place). p.key) is),
  of.2,
  keyed,
)

pub hand_of : {Q M L A : Type 0} (place : Place)
    (ring : Rows (Badge (Key MessageView)) (Doing MessageView View) Q M (Key MessageView) L A) (hand : Pass MessageView View)
    → place_of ring ≡ place → IsSeatAt ring hand → IsHandOf place hand
hand_of place ring hand is seat = (
  seat.0 ∙ ap (λ (p : Place). p.table) is,
  seat.1 ∙ ap (λ (p : Place). p.key) is,
  seat.2,
)
