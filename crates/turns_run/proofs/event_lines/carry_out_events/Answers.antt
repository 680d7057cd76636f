-- A turn of the loop carries out one event, and after the last all are.
use Rattle.std.proofs.Common.{◌∙◌, sym, ap, length, arith, List}
use Rattle.std.specs.Vec.Iter.{into_iter_items}
use Rattle.turn_world.specs.declared.event.Event.{Event}
use Rattle.turns_run.proofs.AnswerLemmas.{after_all, after_one}
use Rattle.turns_run.proofs.event_lines.carry_out_events.Goals as goal

pub loop-event-preserved : goal.loop-event-preserved
loop-event-preserved c =
    let one = after_one c.args.world.now c.loop-event.world c.carry_out_event.new.world c.in-Some.event _ (into_iter_items c.next.new.self) _ _ _ _
    c.in-Some.ensures.steps.0 c.in_ok-carry_out_event.ensures.text c.in_ok-carry_out_event.ensures.world c.loop-event.invariant.0
    c.loop-event.invariant.1 c.loop-event.invariant.2 in
    let size = ap (λ (events : List Event). length events) c.in-Some.ensures.steps.0 in
    (one.0, one.1, one.2, omega (arith, size, c.loop-event.invariant.3, c.in-Some.ensures.steps.1))

pub returns-clause-world : goal.returns-clause-world
returns-clause-world c =
    after_all c.args.world.now c.loop-event.world (into_iter_items c.loop-event.event-iterator) _ (sym c.loop-event.invariant.3 ∙ c.in-None.ensures.steps.0) c.loop-event.invariant.0 c.loop-event.invariant.2
