-- One key more is counted.
use Rattle.std.proofs.Common.{◌∙◌, sym, ap, ap₂, subst, max, ◌+◌, length, arith, List}
use Rattle.system_keys.specs.Keys.{Key, only}
use Rattle.share_judge.specs.declared.step.Step.{Step}
use Rattle.share_judge.specs.Steps.{StepStart, AreRising, no_step, changes_from, starts_now}
use Rattle.share_judge.specs.Versions.{with_keys}
use Rattle.share_judge.proofs.Readings.{last_read}
use Rattle.share_judge.proofs.CountOver.{changed, two_changes, tail_more, key_counted}
use Rattle.share_judge.proofs.key_map.KeyMap.count_beside.Goals as goal

pub loop-key-preserved : goal.loop-key-preserved
loop-key-preserved c =
    let read = λ (step : Step). step.version in
    let before = c.loop-key.invariant in
    let left = c.in-Some.ensures.steps in
    let more = c.count_changes-gained.ensures.few in
    let less = c.count_changes-lost.ensures.few in
    let fits = before.gained_fits in
    let fits_too = before.lost_fits in
    let one = ap (λ (ss : List StepStart). length ss) left in
    record {
      whole =
          key_counted c.args.dropped c.args.self.now c.loop-key.key-iterator c.next.new.self c.args.steps.now (c.in-Some.key.now, c.in-Some.alone.now) c.before-before.result c.at-at.result.version c.max-after.result c.max-now.result c.loop-key.gained c.loop-key.lost c.count_changes-lost.result c.count_changes-gained.result
          (1 + changes_from c.args.dropped 0 (with_keys (starts_now c.args.self.now) (starts_now c.args.steps.now)) + changes_from c.args.dropped 0 (starts_now c.args.steps.now))
          (subst AreRising c.self.view_is c.self.invariant.0) c.count-gained.ensures.rising before.tail left c.before-before.ensures
          (ap read c.at-at.ensures ∙ sym (last_read read no_step c.args.steps.now c.in-Some.key.now))
          (c.max-after.ensures ∙ ap₂ max c.after.ensures c.after-in-loop-key.ensures) c.max-now.ensures
          (c.count_changes-lost.ensures.changes ∙ two_changes c.args.dropped c.as_slice.result.now c.before-before.result c.at-at.result.version c.max-after.result ∙ ap (λ (k : Key). changed c.args.dropped k c.before-before.result c.at-at.result.version + changed c.args.dropped (only k).end c.at-at.result.version c.max-after.result) c.as_slice.ensures)
          (c.count_changes-gained.ensures.changes ∙ two_changes c.args.dropped c.as_slice-in-loop-key.result.now c.before-before.result c.max-now.result c.max-after.result ∙ ap (λ (k : Key). changed c.args.dropped k c.before-before.result c.max-now.result + changed c.args.dropped (only k).end c.max-now.result c.max-after.result) c.as_slice-in-loop-key.ensures)
          before.whole;
      tail = tail_more c.args.self.now c.loop-key.key-iterator c.next.new.self (c.in-Some.key.now, c.in-Some.alone.now) before.tail left;
      gained_fits = omega (arith, fits, more, one);
      lost_fits = omega (arith, fits_too, less, one);
    }
