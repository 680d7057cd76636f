-- Both ends have a start, and each start between gets the version.
use Rattle.std.proofs.Common.{◌≡◌, ◌∙◌, ap, subst, length, vec_len, rules}
use Rattle.system_keys.specs.Keys.{holds}
use Rattle.share_judge.specs.declared.step.Step.{Step}
use Rattle.share_judge.specs.Steps.{HasStart, AreOver, settled, keys_between, starts_now}
use Rattle.share_judge.proofs.Readings.{read_rising}
use Rattle.share_judge.proofs.Overwritten.{steps_over, same_over, between_inside}
use Rattle.share_judge.proofs.Puts.{twice_unchanged}
use Rattle.share_judge.proofs.Repeated.{more_listed}
use Rattle.share_judge.proofs.step_map.StepMap.overwrite_across_starts.Goals as goal

pub returns-in_err-put_copy_if_missing-clause-before : goal.returns-in_err-put_copy_if_missing-clause-before
returns-in_err-put_copy_if_missing-clause-before c = c.put_copy_if_missing.ensures.gains.same.before c.args.version

pub returns-in_err-copy-clause-before : goal.returns-in_err-copy-clause-before
returns-in_err-copy-clause-before c = c.put_copy_if_missing.ensures.gains.same.before c.args.version

pub returns-in_err-put_step_start-clause-before : goal.returns-in_err-put_step_start-clause-before
returns-in_err-put_step_start-clause-before c = (twice_unchanged c.args.self.now c.put_copy_if_missing.new.self c.put_step_start.new.self c.put_copy_if_missing.ensures.gains.same c.put_step_start.ensures.gains.same).before c.args.version

pub returns-in_err-list_starts_between-clause-before : goal.returns-in_err-list_starts_between-clause-before
returns-in_err-list_starts_between-clause-before c = (twice_unchanged c.args.self.now c.put_copy_if_missing.new.self c.put_step_start.new.self c.put_copy_if_missing.ensures.gains.same c.put_step_start.ensures.gains.same).before c.args.version

pub returns-clause-over : goal.returns-clause-over
returns-clause-over c =
    let rising = c.put_step_start.ensures.gains.rising (c.put_copy_if_missing.ensures.gains.rising c.requires.rising) in
    let size : vec_len c.args.listed.now ≡ length c.args.listed.now.items = search rules in
    let read = λ (step : Step). step.version in
    same_over (holds (record { begin = c.args.begin.now; end = c.args.end.now })) (starts_now c.args.self.now) (starts_now c.put_step_start.new.self) (starts_now c.set_versions.new.self) c.args.version (read_rising read c.args.self.now c.requires.rising) (read_rising read c.put_step_start.new.self rising)
    (twice_unchanged c.args.self.now c.put_copy_if_missing.new.self c.put_step_start.new.self c.put_copy_if_missing.ensures.gains.same c.put_step_start.ensures.gains.same).now
    (steps_over c.args.begin.now c.args.end.now c.put_step_start.new.self c.set_versions.new.self c.args.listed.now.items c.list_starts_between.new.keys.items c.deref.result.now c.len-first.result c.args.version rising (subst (HasStart c.put_step_start.new.self) c.in_ok-copy.ensures c.in_ok-put_step_start.ensures.there) (c.put_step_start.ensures.gains.others c.args.end.now c.in_ok-put_copy_if_missing.ensures.there) (c.len-first.ensures ∙ size) c.in_ok-list_starts_between.ensures c.deref.ensures.value c.set_versions.ensures.now)

pub returns-clause-before : goal.returns-clause-before
returns-clause-before c = λ dropped.
    ap (settled dropped 0) c.set_versions.ensures.before
    ∙ (twice_unchanged c.args.self.now c.put_copy_if_missing.new.self c.put_step_start.new.self c.put_copy_if_missing.ensures.gains.same c.put_step_start.ensures.gains.same).before c.args.version dropped

pub returns-clause-rising : goal.returns-clause-rising
returns-clause-rising c = c.set_versions.ensures.rising (c.put_step_start.ensures.gains.rising (c.put_copy_if_missing.ensures.gains.rising c.requires.rising))

pub returns-clause-listed : goal.returns-clause-listed
returns-clause-listed c =
    let rising = c.put_step_start.ensures.gains.rising (c.put_copy_if_missing.ensures.gains.rising c.requires.rising) in
    let size : vec_len c.args.listed.now ≡ length c.args.listed.now.items = search rules in
    let read = λ (step : Step). step.version in
    let test = holds (record { begin = c.args.begin.now; end = c.args.end.now }) in
    let over : AreOver test c.args.version (starts_now c.args.self.now) (starts_now c.set_versions.new.self) =
    same_over test (starts_now c.args.self.now) (starts_now c.put_step_start.new.self) (starts_now c.set_versions.new.self) c.args.version (read_rising read c.args.self.now c.requires.rising) (read_rising read c.put_step_start.new.self rising)
    (twice_unchanged c.args.self.now c.put_copy_if_missing.new.self c.put_step_start.new.self c.put_copy_if_missing.ensures.gains.same c.put_step_start.ensures.gains.same).now
    (steps_over c.args.begin.now c.args.end.now c.put_step_start.new.self c.set_versions.new.self c.args.listed.now.items c.list_starts_between.new.keys.items c.deref.result.now c.len-first.result c.args.version rising (subst (HasStart c.put_step_start.new.self) c.in_ok-copy.ensures c.in_ok-put_step_start.ensures.there) (c.put_step_start.ensures.gains.others c.args.end.now c.in_ok-put_copy_if_missing.ensures.there) (c.len-first.ensures ∙ size) c.in_ok-list_starts_between.ensures c.deref.ensures.value c.set_versions.ensures.now) in
    more_listed test c.args.version (starts_now c.args.self.now) (starts_now c.set_versions.new.self) c.args.listed.now.items (keys_between c.args.begin.now c.args.end.now c.put_step_start.new.self) c.list_starts_between.new.keys.items over c.in_ok-list_starts_between.ensures
    (between_inside c.args.begin.now c.args.end.now c.put_step_start.new.self)
