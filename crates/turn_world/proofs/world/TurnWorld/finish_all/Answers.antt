-- What is left is carried out, or the run stops.
use Rattle.std.proofs.Common.{◌≡◌, ◌∙◌, ap, subst, refl, map}
use Rattle.endings.specs.EventsLeft.{events_left}
use Rattle.turn_world.specs.Events.{event_of}
use Rattle.turn_world.specs.Steps.{HasStopped}
use Rattle.turn_world.proofs.FinishesLeft.{finished_all, stopped_at_once, match_both}
use Rattle.turn_world.proofs.world.TurnWorld.finish_all.Goals as goal

pub returns-in_default-clause-results : goal.returns-in_default-clause-results
returns-in_default-clause-results c = stopped_at_once c.args.self.now (record { carried_out = 0; answers = c.new.result }) c.in_default.ensures.some refl c.new.ensures.items

pub returns-clause-results : goal.returns-clause-results
returns-clause-results c =
    let now = c.args.self.now in
    let after = c.run.new.self in
    let given = map event_of c.as_slice.result.now in
    let is : given ≡ events_left now.config now.world = ap (map event_of) c.as_slice.ensures.value ∙ c.in-Ok.ensures.events in
    match_both c.run.result _ _ _ _
    (λ answers ran. finished_all now after given answers.items c.config.ensures.limits c.config.ensures.sound is ran)
    (λ stopped halted. subst (λ es. HasStopped now after es stopped) is halted) c.run.ensures.results
