-- New parts are in step with the world before the first event.
use Rattle.std.proofs.Common.{◌∙◌, ap, ℕ, replicate}
use Rattle.turn_world.specs.Kept.{world_of, requests_of}
use Rattle.turn_world.proofs.NewParts.{kept_new}
use Rattle.turn_world.proofs.AllKept.{none_kept}
use Rattle.turn_world.proofs.world.TurnWorld.new.Goals as goal

pub invariant_of-result : goal.invariant_of-result
invariant_of-result c = (
  kept_new c.args.config.now _ c.in_ok-new_resolvers.field-0.items c.in_ok-new_proxies.field-0.items _ c.resolvers.ensures.limits
      (λ i. world_of (c.new.ensures.items i) (c.in_ok-new.ensures i) ((c.in_ok-list_of_zeros.ensures ∙ ap (λ (n : ℕ). replicate n 0) c.resolvers.ensures.value) i) ((c.in_ok-list_of_zeros-2.ensures ∙ ap (λ (n : ℕ). replicate n 0) c.proxies.ensures.value) i))
      (ap requests_of c.new.ensures.items) c.in_ok-new_resolvers.ensures c.in_ok-new_proxies.ensures,
  none_kept _ _ c.new.ensures.items,
)
