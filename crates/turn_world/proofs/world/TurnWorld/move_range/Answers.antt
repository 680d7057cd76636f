-- The move is refused, or made.
use Rattle.std.proofs.Common.{◌≡◌, ◌∙◌, ◌+◌, sym, subst, [], ◌∷◌, ◌++◌, arith, rules}
use Rattle.std.specs.Prelude.{Err}
use Rattle.model.specs.World.{MoveRange}
use Rattle.turn_world.specs.Kept.{world_of, requests_of}
use Rattle.turn_world.specs.Steps.{AnswersEvent}
use Rattle.turn_world.specs.declared.refusal.Refusal.TheVariants as refusals
use Rattle.turn_world.proofs.MovedRanges.{refused, answered, not_refused, after, kept}
use Rattle.turn_world.proofs.world.TurnWorld.move_range.Goals as goal

pub returns-then-resolvers-dest-clause-answer : goal.returns-then-resolvers-dest-clause-answer
returns-then-resolvers-dest-clause-answer c =
    let t = c.self.inside in
    refused t.config (world_of t.rows.items t.moves t.judged_counts.items t.finished.items) c.args.self.now c.args.range.now c.args.dest c.self.view_is (omega (arith, c.resolvers.ensures.value, c.if-resolvers-dest.true))

pub returns-in_err-range-clause-answer : goal.returns-in_err-range-clause-answer
returns-in_err-range-clause-answer c =
    let t = c.self.inside in
    let is : c.from_residual.result ≡ Err refusals.OutOfMemory = search rules in
    subst (AnswersEvent c.args.self.now (MoveRange c.args.range.now c.args.dest)) (sym is)
    (not_refused t.config (world_of t.rows.items t.moves t.judged_counts.items t.finished.items) c.args.self.now c.args.range.now c.args.dest t.last c.self.view_is (omega (arith, c.resolvers.ensures.value, c.if-resolvers-dest.false)) c.self.invariant.0.last_is)

pub returns-in_err-push-clause-answer : goal.returns-in_err-push-clause-answer
returns-in_err-push-clause-answer c =
    let t = c.self.inside in
    let is : c.from_residual-in_err-push.result ≡ Err refusals.OutOfMemory = search rules in
    subst (AnswersEvent c.args.self.now (MoveRange c.args.range.now c.args.dest)) (sym is)
    (not_refused t.config (world_of t.rows.items t.moves t.judged_counts.items t.finished.items) c.args.self.now c.args.range.now c.args.dest t.last c.self.view_is (omega (arith, c.resolvers.ensures.value, c.if-resolvers-dest.false)) c.self.invariant.0.last_is)

pub invariant_of-self-2 : goal.invariant_of-self-2
invariant_of-self-2 c =
    let t = c.self.inside in
    (kept t.config (world_of t.rows.items t.moves t.judged_counts.items t.finished.items) c.in_ok-range.range c.args.dest t.last c.push.new.self t.resolvers.items t.proxies.items (requests_of t.rows.items) c.self.invariant.0 (omega (arith, c.resolvers.ensures.value, c.if-resolvers-dest.false)) c.in_ok-push.ensures.ok, c.self.invariant.1)

pub returns-clause-answer : goal.returns-clause-answer
returns-clause-answer c =
    let t = c.self.inside in
    answered t.config (world_of t.rows.items t.moves t.judged_counts.items t.finished.items) c.args.self.now c.args.range.now c.args.dest t.last c.self.view_is (omega (arith, c.resolvers.ensures.value, c.if-resolvers-dest.false)) c.self.invariant.0.last_is

pub returns-clause-ok : goal.returns-clause-ok
returns-clause-ok c =
    let t = c.self.inside in
    let same : c.in_ok-range.range ≡ c.args.range.now = c.in_ok-range.ensures in
    let more : c.push.new.self ≡ t.moves ++ (record { range = c.args.range.now; date = t.last + 1; dest = c.args.dest }) ∷ [] = c.in_ok-push.ensures.ok ∙ (λ i. t.moves ++ (record { range = same i; date = t.last + 1; dest = c.args.dest }) ∷ []) in
    after t.config (world_of t.rows.items t.moves t.judged_counts.items t.finished.items) c.args.self.now c.args.range.now c.args.dest t.last c.push.new.self c.self.view_is (omega (arith, c.resolvers.ensures.value, c.if-resolvers-dest.false)) c.self.invariant.0.last_is more
