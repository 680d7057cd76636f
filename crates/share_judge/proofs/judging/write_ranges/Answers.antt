-- One range more is written.
use Rattle.std.proofs.Common.{◌∙◌, sym, arith}
use Rattle.std.proofs.lemmas.Option.{get_or_from_slice_get}
use Rattle.share_judge.specs.Versions.{all_now}
use Rattle.system_keys.specs.Keys.{holds}
use Rattle.share_judge.proofs.VersionCalls.{over_up_to}
use Rattle.share_judge.proofs.JudgedParts.{one_written}
use Rattle.share_judge.proofs.judging.write_ranges.Goals as goal

pub returns-in_err-overwrite-clause-before : goal.returns-in_err-overwrite-clause-before
returns-in_err-overwrite-clause-before c = λ dropped. c.overwrite.ensures.before dropped ∙ c.loop-place.invariant.before dropped

pub loop-place-preserved : goal.loop-place-preserved
loop-place-preserved c =
    record {
      writing = one_written c.args.version c.args.part.now.writes c.loop-place.place c.write_at-range.result.now (all_now c.args.steps.now) (all_now c.loop-place.steps) (all_now c.overwrite.new.self) (omega (arith, c.loop-place-test.true, c.write_count-place-end.ensures)) (sym (get_or_from_slice_get c.args.part.now.writes c.loop-place.place c.write_at-range.result.now c.write_at-range.result.now c.write_at-range.ensures)) c.loop-place.invariant.writing c.in_ok-overwrite.ensures.over;
      before = λ dropped. c.overwrite.ensures.before dropped ∙ c.loop-place.invariant.before dropped;
      order = c.overwrite.ensures.order;
      up_to = over_up_to (holds c.write_at-range.result.now) c.args.version (all_now c.loop-place.steps) (all_now c.overwrite.new.self) c.in_ok-overwrite.ensures.over c.loop-place.invariant.up_to;
      listed = λ before. c.in_ok-overwrite.ensures.listed (c.loop-place.invariant.listed before);
    }
