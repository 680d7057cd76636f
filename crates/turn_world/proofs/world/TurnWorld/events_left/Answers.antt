-- The offers that are left, and then the finishes.
use Rattle.std.proofs.Common.{◌≡◌, ◌∙◌, ap, sym, refl, subst, length, rules}
use Rattle.model.specs.World.{IsSound}
use Rattle.model.specs.Turns.{TurnCluster}
use Rattle.turn_world.specs.Kept.{world_of}
use Rattle.turn_world.proofs.EventsLeft.{on_err}
use Rattle.turn_world.proofs.FinishesLeft.{rows_are, all_listed, offer_left, finish_left}
use Rattle.turn_world.proofs.world.TurnWorld.events_left.Goals as goal

pub returns-clause-events : goal.returns-clause-events
returns-clause-events c =
    let t = c.self.inside in
    let w = world_of t.rows.items t.moves t.judged_counts.items t.finished.items in
    let now : TurnCluster = c.args.self.now in
    let many : c.len.result ≡ length t.rows.items = search rules in
    let sound : IsSound now.config now.world = subst (λ (u : TurnCluster). IsSound u.config u.world) c.self.view_is c.self.invariant.0.parts.sound in
    all_listed now c.new-events.result.items c.push_offers.new.events.items c.push_finishes.new.events.items c.as_slice.result.now c.len.result sound c.new-events.ensures.items
    (c.as_slice.ensures.value ∙ ap (λ (u : TurnCluster). u.world.judged_counts) c.self.view_is) (many ∙ sym (rows_are t.config t.rows.items w now refl c.self.view_is)) c.in_ok-push_offers.ensures.ok c.in_ok-push_finishes.ensures.ok

pub returns-in_err-push_offers-clause-some : goal.returns-in_err-push_offers-clause-some
returns-in_err-push_offers-clause-some c =
    let t = c.self.inside in
    let w = world_of t.rows.items t.moves t.judged_counts.items t.finished.items in
    let now : TurnCluster = c.args.self.now in
    let many : c.len.result ≡ length t.rows.items = search rules in
    let sound : IsSound now.config now.world = subst (λ (u : TurnCluster). IsSound u.config u.world) c.self.view_is c.self.invariant.0.parts.sound in
    on_err c.from_residual.result (offer_left now c.as_slice.result.now c.len.result sound
    (c.as_slice.ensures.value ∙ ap (λ (u : TurnCluster). u.world.judged_counts) c.self.view_is) (many ∙ sym (rows_are t.config t.rows.items w now refl c.self.view_is)) c.in_err-push_offers.ensures.err)

pub returns-in_err-push_finishes-clause-some : goal.returns-in_err-push_finishes-clause-some
returns-in_err-push_finishes-clause-some c = on_err c.from_residual-in_err-push_finishes.result (finish_left c.args.self.now c.in_err-push_finishes.ensures.err)
