-- The ranges that are left, written over the steps so far, give what all give.
use Rattle.std.proofs.Common.{◌≤◌}
use Rattle.system_keys.specs.Keys.{Key}
use Rattle.share_judge.specs.Steps.{TellTheSame, HaveVersion, last_from, starts_now}
use Rattle.share_judge.specs.Versions.{AreInOrder, all_now, all_before}
use Rattle.share_judge.proofs.JudgedParts.{AreWriting}
use Rattle.share_judge.proofs.judging.write_ranges.Given as goal

abbrev pub invariant-loop-place : goal.invariant-loop-place
invariant-loop-place l =
    record {
      writing : AreWriting l.version l.part.writes l.place (all_now l.fn.steps) (all_now l.steps);
      before : TellTheSame (all_before l.version l.fn.steps) (all_before l.version l.steps);
      order : AreInOrder l.steps;
      up_to : (key : Key) → last_from 0 (all_now l.steps) key ≤ l.version;
      listed : HaveVersion l.version (starts_now l.fn.steps.steps) l.fn.listed.items → HaveVersion l.version (starts_now l.steps.steps) l.listed.items;
    }
