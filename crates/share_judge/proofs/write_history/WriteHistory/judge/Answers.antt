-- The share is written over what is kept, or taken back.
use Rattle.std.proofs.Common.{◌∙◌, sym, subst}
use Rattle.share_judge.specs.declared.step.Step.{Step}
use Rattle.share_judge.specs.Steps.{HaveVersion, starts_now}
use Rattle.share_judge.specs.Versions.{all_now}
use Rattle.share_judge.proofs.KeptWrites.{same_kept}
use Rattle.share_judge.proofs.WithKeys.{all_rising}
use Rattle.share_judge.proofs.StoodFor.{shown_verdicts, kept_next, shown_gain, last_below, all_below, dropped_below, back_same, same_seen}
use Rattle.share_judge.proofs.write_history.WriteHistory.judge.Goals as goal

pub judge_parts-requires-clause-below : goal.judge_parts-requires-clause-below
judge_parts-requires-clause-below c =
    all_below c.self.inside.last c.self.inside.dropped c.args.version (all_now c.self.inside.steps) c.self.invariant
    (last_below c.args.self.now c.self.inside.window c.self.inside.last c.self.inside.dropped c.args.version (all_now c.self.inside.steps) c.self.view_is c.requires)

pub judge_parts-requires-clause-dropped : goal.judge_parts-requires-clause-dropped
judge_parts-requires-clause-dropped c =
    dropped_below c.self.inside.last c.self.inside.dropped c.args.version (all_now c.self.inside.steps) c.self.invariant
    (last_below c.args.self.now c.self.inside.window c.self.inside.last c.self.inside.dropped c.args.version (all_now c.self.inside.steps) c.self.view_is c.requires)

pub invariant_of-self : goal.invariant_of-self
invariant_of-self c =
    let above = last_below c.args.self.now c.self.inside.window c.self.inside.last c.self.inside.dropped c.args.version (all_now c.self.inside.steps) c.self.view_is c.requires in
    same_kept c.self.inside.last c.self.inside.dropped (all_now c.self.inside.steps) (all_now c.take_back_share.new.self) c.self.invariant
    (all_rising (λ (step : Step). step.version) c.take_back_share.new.self c.take_back_share.ensures.order)
    (back_same c.args.version c.self.inside.steps c.judge_parts.new.steps c.take_back_share.new.self c.judge_parts.ensures.old
    (all_below c.self.inside.last c.self.inside.dropped c.args.version (all_now c.self.inside.steps) c.self.invariant above) c.judge_parts.ensures.before c.take_back_share.ensures.back)

pub returns-in_default-clause-err : goal.returns-in_default-clause-err
returns-in_default-clause-err c =
    let above = last_below c.args.self.now c.self.inside.window c.self.inside.last c.self.inside.dropped c.args.version (all_now c.self.inside.steps) c.self.view_is c.requires in
    same_seen c.self.inside.window c.self.inside.last c.self.inside.dropped (all_now c.self.inside.steps) (all_now c.take_back_share.new.self)
    (back_same c.args.version c.self.inside.steps c.judge_parts.new.steps c.take_back_share.new.self c.judge_parts.ensures.old
    (all_below c.self.inside.last c.self.inside.dropped c.args.version (all_now c.self.inside.steps) c.self.invariant above) c.judge_parts.ensures.before c.take_back_share.ensures.back)
    ∙ c.self.view_is

pub remove_repeated_starts-requires : goal.remove_repeated_starts-requires
remove_repeated_starts-requires c = subst (HaveVersion c.args.version (starts_now c.judge_parts.new.steps.steps)) (sym c.deref.ensures.value) c.in-Ok.ensures.listed

pub invariant_of-self-2 : goal.invariant_of-self-2
invariant_of-self-2 c =
    let read = λ (step : Step). step.version in
    let above = last_below c.args.self.now c.self.inside.window c.self.inside.last c.self.inside.dropped c.args.version (all_now c.self.inside.steps) c.self.view_is c.requires in
    kept_next c.self.inside.window c.self.inside.dropped c.args.version (all_now c.self.inside.steps) (all_now c.judge_parts.new.steps) (all_now c.remove_repeated_starts.new.self) c.parts.result.now c.in-Ok.verdicts.items
    (dropped_below c.self.inside.last c.self.inside.dropped c.args.version (all_now c.self.inside.steps) c.self.invariant above)
    (all_rising read c.judge_parts.new.steps c.judge_parts.ensures.order) (all_rising read c.remove_repeated_starts.new.self c.remove_repeated_starts.ensures.order) c.remove_repeated_starts.ensures.same c.in-Ok.ensures.judged

pub returns-clause-verdicts : goal.returns-clause-verdicts
returns-clause-verdicts c =
    shown_verdicts c.args.self.now c.self.inside.window c.self.inside.last c.self.inside.dropped c.args.version c.parts.result.now c.args.share.now (all_now c.self.inside.steps) (all_now c.judge_parts.new.steps) c.in-Ok.verdicts.items c.from.result c.self.view_is c.parts.ensures c.from.ensures c.requires c.in-Ok.ensures.judged

pub returns-clause-stands : goal.returns-clause-stands
returns-clause-stands c =
    let read = λ (step : Step). step.version in
    shown_gain c.args.self.now c.self.inside.window c.self.inside.last c.self.inside.dropped c.args.version c.parts.result.now c.args.share.now (all_now c.self.inside.steps) (all_now c.judge_parts.new.steps) (all_now c.remove_repeated_starts.new.self) c.in-Ok.verdicts.items c.self.view_is c.parts.ensures c.self.invariant c.requires
    (all_rising read c.judge_parts.new.steps c.judge_parts.ensures.order) (all_rising read c.remove_repeated_starts.new.self c.remove_repeated_starts.ensures.order) c.remove_repeated_starts.ensures.same c.in-Ok.ensures.judged
