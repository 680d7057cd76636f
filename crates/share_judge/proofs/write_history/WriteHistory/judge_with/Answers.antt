-- The share is written over what is kept, or taken back if its verdicts are not kept.
use Rattle.std.proofs.Common.{◌∙◌, refl, sym, subst}
use Rattle.share_judge.specs.declared.step.Step.{Step}
use Rattle.share_judge.specs.Steps.{HaveVersion, starts_now}
use Rattle.share_judge.specs.Versions.{all_now}
use Rattle.share_judge.proofs.KeptWrites.{same_kept}
use Rattle.share_judge.proofs.WithKeys.{all_rising}
use Rattle.share_judge.proofs.StoodFor.{shown_verdicts, kept_next, shown_gain, last_below, all_below, dropped_below, back_same, same_seen}
use Rattle.share_judge.proofs.write_history.WriteHistory.judge_with.Goals as goal

pub judge_with_copy-requires-clause-below : goal.judge_with_copy-requires-clause-below
judge_with_copy-requires-clause-below g c =
    let above = last_below c.args.self.now c.self.inside.window c.self.inside.last c.self.inside.dropped c.args.version (all_now c.self.inside.steps) c.self.view_is c.requires.above in
    all_below c.self.inside.last c.self.inside.dropped c.args.version (all_now c.self.inside.steps) c.self.invariant above

pub judge_with_copy-requires-clause-dropped : goal.judge_with_copy-requires-clause-dropped
judge_with_copy-requires-clause-dropped g c =
    let above = last_below c.args.self.now c.self.inside.window c.self.inside.last c.self.inside.dropped c.args.version (all_now c.self.inside.steps) c.self.view_is c.requires.above in
    dropped_below c.self.inside.last c.self.inside.dropped c.args.version (all_now c.self.inside.steps) c.self.invariant above

pub invariant_of-self : goal.invariant_of-self
invariant_of-self g c =
    let above = last_below c.args.self.now c.self.inside.window c.self.inside.last c.self.inside.dropped c.args.version (all_now c.self.inside.steps) c.self.view_is c.requires.above in
    same_kept c.self.inside.last c.self.inside.dropped (all_now c.self.inside.steps) (all_now c.take_back_share.new.self) c.self.invariant
    (all_rising (λ (step : Step). step.version) c.take_back_share.new.self c.take_back_share.ensures.order)
    (back_same c.args.version c.self.inside.steps c.judge_with_copy.new.steps c.take_back_share.new.self c.judge_with_copy.ensures.old
    (all_below c.self.inside.last c.self.inside.dropped c.args.version (all_now c.self.inside.steps) c.self.invariant above) c.judge_with_copy.ensures.before c.take_back_share.ensures.back)

pub returns-in_default-clause-err : goal.returns-in_default-clause-err
returns-in_default-clause-err g c =
    let above = last_below c.args.self.now c.self.inside.window c.self.inside.last c.self.inside.dropped c.args.version (all_now c.self.inside.steps) c.self.view_is c.requires.above in
    same_seen c.self.inside.window c.self.inside.last c.self.inside.dropped (all_now c.self.inside.steps) (all_now c.take_back_share.new.self)
    (back_same c.args.version c.self.inside.steps c.judge_with_copy.new.steps c.take_back_share.new.self c.judge_with_copy.ensures.old
    (all_below c.self.inside.last c.self.inside.dropped c.args.version (all_now c.self.inside.steps) c.self.invariant above) c.judge_with_copy.ensures.before c.take_back_share.ensures.back)
    ∙ c.self.view_is

pub remove_repeated_starts-requires : goal.remove_repeated_starts-requires
remove_repeated_starts-requires g c = subst (HaveVersion c.args.version (starts_now c.judge_with_copy.new.steps.steps)) (sym c.deref.ensures.value) c.in-Ok.ensures.listed

pub invariant_of-self-in-Ok-keep : goal.invariant_of-self-in-Ok-keep
invariant_of-self-in-Ok-keep g c =
    let read = λ (step : Step). step.version in
    let above = last_below c.args.self.now c.self.inside.window c.self.inside.last c.self.inside.dropped c.args.version (all_now c.self.inside.steps) c.self.view_is c.requires.above in
    kept_next c.self.inside.window c.self.inside.dropped c.args.version (all_now c.self.inside.steps) (all_now c.judge_with_copy.new.steps) (all_now c.remove_repeated_starts.new.self) c.parts.result.now c.in-Ok.verdicts
    (dropped_below c.self.inside.last c.self.inside.dropped c.args.version (all_now c.self.inside.steps) c.self.invariant above)
    (all_rising read c.judge_with_copy.new.steps c.judge_with_copy.ensures.order) (all_rising read c.remove_repeated_starts.new.self c.remove_repeated_starts.ensures.order) c.remove_repeated_starts.ensures.same c.in-Ok.ensures.judged

pub returns-in-Ok-keep-clause-verdicts : goal.returns-in-Ok-keep-clause-verdicts
returns-in-Ok-keep-clause-verdicts g c =
    shown_verdicts c.args.self.now c.self.inside.window c.self.inside.last c.self.inside.dropped c.args.version c.parts.result.now c.args.share.now (all_now c.self.inside.steps) (all_now c.judge_with_copy.new.steps) c.in-Ok.verdicts c.in-Ok.verdicts c.self.view_is c.parts.ensures refl c.requires.above c.in-Ok.ensures.judged

pub returns-in-Ok-keep-clause-stands : goal.returns-in-Ok-keep-clause-stands
returns-in-Ok-keep-clause-stands g c =
    let read = λ (step : Step). step.version in
    shown_gain c.args.self.now c.self.inside.window c.self.inside.last c.self.inside.dropped c.args.version c.parts.result.now c.args.share.now (all_now c.self.inside.steps) (all_now c.judge_with_copy.new.steps) (all_now c.remove_repeated_starts.new.self) c.in-Ok.verdicts c.self.view_is c.parts.ensures c.self.invariant c.requires.above
    (all_rising read c.judge_with_copy.new.steps c.judge_with_copy.ensures.order) (all_rising read c.remove_repeated_starts.new.self c.remove_repeated_starts.ensures.order) c.remove_repeated_starts.ensures.same c.in-Ok.ensures.judged

pub invariant_of-self-in-Err-keep : goal.invariant_of-self-in-Err-keep
invariant_of-self-in-Err-keep g c =
    let above = last_below c.args.self.now c.self.inside.window c.self.inside.last c.self.inside.dropped c.args.version (all_now c.self.inside.steps) c.self.view_is c.requires.above in
    same_kept c.self.inside.last c.self.inside.dropped (all_now c.self.inside.steps) (all_now c.take_back_share-in-Err.new.self) c.self.invariant
    (all_rising (λ (step : Step). step.version) c.take_back_share-in-Err.new.self c.take_back_share-in-Err.ensures.order)
    (back_same c.args.version c.self.inside.steps c.judge_with_copy.new.steps c.take_back_share-in-Err.new.self c.judge_with_copy.ensures.old
    (all_below c.self.inside.last c.self.inside.dropped c.args.version (all_now c.self.inside.steps) c.self.invariant above) c.judge_with_copy.ensures.before c.take_back_share-in-Err.ensures.back)

pub returns-in-Err-clause-err : goal.returns-in-Err-clause-err
returns-in-Err-clause-err g c =
    let above = last_below c.args.self.now c.self.inside.window c.self.inside.last c.self.inside.dropped c.args.version (all_now c.self.inside.steps) c.self.view_is c.requires.above in
    same_seen c.self.inside.window c.self.inside.last c.self.inside.dropped (all_now c.self.inside.steps) (all_now c.take_back_share-in-Err.new.self)
    (back_same c.args.version c.self.inside.steps c.judge_with_copy.new.steps c.take_back_share-in-Err.new.self c.judge_with_copy.ensures.old
    (all_below c.self.inside.last c.self.inside.dropped c.args.version (all_now c.self.inside.steps) c.self.invariant above) c.judge_with_copy.ensures.before c.take_back_share-in-Err.ensures.back)
    ∙ c.self.view_is

pub returns-in-Err-clause-why : goal.returns-in-Err-clause-why
returns-in-Err-clause-why g c = (
  c.in-Ok.copy,
  shown_verdicts c.args.self.now c.self.inside.window c.self.inside.last c.self.inside.dropped c.args.version c.parts.result.now c.args.share.now (all_now c.self.inside.steps) (all_now c.judge_with_copy.new.steps) c.in-Ok.verdicts c.in-Ok.copy c.self.view_is c.parts.ensures c.in-Ok.ensures.copy c.requires.above c.in-Ok.ensures.judged,
  c.in-Err.ensures,
)
