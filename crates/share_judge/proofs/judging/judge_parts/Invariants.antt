-- The parts so far are judged, and what was before the share stands.
use Rattle.share_judge.specs.Steps.{TellTheSame, HaveVersion, starts_now}
use Rattle.share_judge.specs.Versions.{AreInOrder, all_now, all_before}
use Rattle.share_judge.proofs.JudgedParts.{AreJudged}
use Rattle.share_judge.proofs.judging.judge_parts.Given as goal

abbrev pub invariant-loop-part : goal.invariant-loop-part
invariant-loop-part l =
    record {
      judged : AreJudged l.judging.window l.judging.dropped l.judging.version (all_now l.fn.steps) l.parts l.part-index l.verdicts.items (all_now l.steps);
      before : TellTheSame (all_before l.judging.version l.fn.steps) (all_before l.judging.version l.steps);
      order : AreInOrder l.steps;
      listed : HaveVersion l.judging.version (starts_now l.steps.steps) l.listed.items;
    }
