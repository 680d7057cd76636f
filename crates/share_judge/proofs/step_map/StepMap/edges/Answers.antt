-- The last start up to the end is at it, or else up to the begin; or the one before is.
use Rattle.std.proofs.Common.{◌≡◌, ◌∙◌, sym, subst, List, false, true}
use Rattle.share_judge.specs.Steps.{StepStart, IsEdge, IsFree, no_step, last_from}
use Rattle.share_judge.proofs.Free.{if_some, none_at_begin, none_at_end, none_found, last_at_begin, last_at_end, last_found, start_at_end, two_at_begin, two_found, one_at_begin, one_found}
use Rattle.share_judge.proofs.step_map.StepMap.edges.Goals as goal

pub returns-in_default-clause-begin : goal.returns-in_default-clause-begin
returns-in_default-clause-begin c =
    subst (λ (ss : List StepStart). no_step ≡ last_from no_step ss c.args.begin.now) c.self.view_is
    (none_at_begin c.self.inside.steps.entries c.args.begin.now c.args.end.now c.requires c.self.invariant (sym (c.range-left.ensures.between tt) ∙ c.in_default.ensures.steps.0))

pub returns-in_default-clause-is_free : goal.returns-in_default-clause-is_free
returns-in_default-clause-is_free c =
    subst (λ (ss : List StepStart). IsFree c.args.begin.now c.args.end.now ss) c.self.view_is
    (none_found c.self.inside.steps.entries c.args.begin.now c.args.end.now (sym (c.range-left.ensures.between tt) ∙ c.in_default.ensures.steps.0))

pub returns-in_default-clause-end : goal.returns-in_default-clause-end
returns-in_default-clause-end c =
    subst (λ (ss : List StepStart). IsEdge ss c.args.end.now no_step false) c.self.view_is
    (none_at_end c.self.inside.steps.entries c.args.end.now c.self.invariant (sym (c.range-left.ensures.between tt) ∙ c.in_default.ensures.steps.0))

pub returns-then-lt-clause-begin : goal.returns-then-lt-clause-begin
returns-then-lt-clause-begin c =
    if_some c.step_up_to.result
    (λ step up_to is.
    subst (λ (ss : List StepStart). step ≡ last_from no_step ss c.args.begin.now) c.self.view_is
    (last_at_begin c.self.inside.steps.entries c.next_back.new.self (c.in-Some.last.now, c.in-Some.step.now) c.args.begin.now c.args.end.now step c.requires c.self.invariant (sym (c.range-left.ensures.between tt) ∙ c.in-Some.ensures.steps) up_to is))
    c.step_up_to.ensures.up_to c.step_up_to.ensures.step

pub returns-then-lt-clause-is_free : goal.returns-then-lt-clause-is_free
returns-then-lt-clause-is_free c =
    if_some c.step_up_to.result
    (λ step up_to is.
    subst (λ (ss : List StepStart). IsFree c.args.begin.now c.args.end.now ss) c.self.view_is
    (last_found c.self.inside.steps.entries c.next_back.new.self (c.in-Some.last.now, c.in-Some.step.now) c.args.begin.now c.args.end.now c.self.invariant (sym (c.range-left.ensures.between tt) ∙ c.in-Some.ensures.steps) up_to))
    c.step_up_to.ensures.up_to c.step_up_to.ensures.step

pub returns-then-lt-clause-end : goal.returns-then-lt-clause-end
returns-then-lt-clause-end c =
    subst (λ (ss : List StepStart). IsEdge ss c.args.end.now c.in-Some.step.now false) c.self.view_is
    (last_at_end c.self.inside.steps.entries c.next_back.new.self (c.in-Some.last.now, c.in-Some.step.now) c.args.end.now c.self.invariant (sym (c.range-left.ensures.between tt) ∙ c.in-Some.ensures.steps))

pub returns-in-Some-next_back-clause-begin : goal.returns-in-Some-next_back-clause-begin
returns-in-Some-next_back-clause-begin c =
    if_some c.step_up_to-in-Some-next_back.result
    (λ step up_to is.
    subst (λ (ss : List StepStart). step ≡ last_from no_step ss c.args.begin.now) c.self.view_is
    (two_at_begin c.self.inside.steps.entries c.next_back.new.self c.next_back-2.new.self (c.in-Some.last.now, c.in-Some.step.now) (c.in-Some-next_back.key.now, c.in-Some-next_back.step.now) c.args.begin.now c.args.end.now step c.requires c.self.invariant (sym (c.range-left.ensures.between tt) ∙ c.in-Some.ensures.steps) (sym c.lt.ensures ∙ c.if-lt.false) c.in-Some-next_back.ensures.steps up_to is))
    c.step_up_to-in-Some-next_back.ensures.up_to c.step_up_to-in-Some-next_back.ensures.step

pub returns-in-Some-next_back-clause-is_free : goal.returns-in-Some-next_back-clause-is_free
returns-in-Some-next_back-clause-is_free c =
    if_some c.step_up_to-in-Some-next_back.result
    (λ step up_to is.
    subst (λ (ss : List StepStart). IsFree c.args.begin.now c.args.end.now ss) c.self.view_is
    (two_found c.self.inside.steps.entries c.next_back.new.self c.next_back-2.new.self (c.in-Some.last.now, c.in-Some.step.now) (c.in-Some-next_back.key.now, c.in-Some-next_back.step.now) c.args.begin.now c.args.end.now c.self.invariant (sym (c.range-left.ensures.between tt) ∙ c.in-Some.ensures.steps) (sym c.lt.ensures ∙ c.if-lt.false) c.in-Some-next_back.ensures.steps up_to))
    c.step_up_to-in-Some-next_back.ensures.up_to c.step_up_to-in-Some-next_back.ensures.step

pub returns-in-Some-next_back-clause-end : goal.returns-in-Some-next_back-clause-end
returns-in-Some-next_back-clause-end c =
    subst (λ (ss : List StepStart). IsEdge ss c.args.end.now c.in-Some.step.now true) c.self.view_is
    (start_at_end c.self.inside.steps.entries c.next_back.new.self (c.in-Some.last.now, c.in-Some.step.now) c.args.end.now c.self.invariant (sym (c.range-left.ensures.between tt) ∙ c.in-Some.ensures.steps) (sym c.lt.ensures ∙ c.if-lt.false))

pub returns-in-None-clause-begin : goal.returns-in-None-clause-begin
returns-in-None-clause-begin c =
    subst (λ (ss : List StepStart). no_step ≡ last_from no_step ss c.args.begin.now) c.self.view_is
    (one_at_begin c.self.inside.steps.entries c.next_back.new.self (c.in-Some.last.now, c.in-Some.step.now) c.args.begin.now c.args.end.now c.requires c.self.invariant (sym (c.range-left.ensures.between tt) ∙ c.in-Some.ensures.steps) (sym c.lt.ensures ∙ c.if-lt.false) c.in-None.ensures.steps.0)

pub returns-in-None-clause-is_free : goal.returns-in-None-clause-is_free
returns-in-None-clause-is_free c =
    subst (λ (ss : List StepStart). IsFree c.args.begin.now c.args.end.now ss) c.self.view_is
    (one_found c.self.inside.steps.entries c.next_back.new.self (c.in-Some.last.now, c.in-Some.step.now) c.args.begin.now c.args.end.now (sym (c.range-left.ensures.between tt) ∙ c.in-Some.ensures.steps) (sym c.lt.ensures ∙ c.if-lt.false) c.in-None.ensures.steps.0)

pub returns-in-None-clause-end : goal.returns-in-None-clause-end
returns-in-None-clause-end c =
    subst (λ (ss : List StepStart). IsEdge ss c.args.end.now c.in-Some.step.now true) c.self.view_is
    (start_at_end c.self.inside.steps.entries c.next_back.new.self (c.in-Some.last.now, c.in-Some.step.now) c.args.end.now c.self.invariant (sym (c.range-left.ensures.between tt) ∙ c.in-Some.ensures.steps) (sym c.lt.ensures ∙ c.if-lt.false))
