-- No read so far is overwritten.
use Rattle.std.proofs.Common.{◌≡◌, drop}
use Rattle.std.specs.List.{list_any}
use Rattle.share_judge.specs.Steps.{is_written_above}
use Rattle.share_judge.specs.Versions.{all_now}
use Rattle.share_judge.proofs.judging.has_overwritten_read.Given as goal

abbrev pub invariant-loop-place : goal.invariant-loop-place
invariant-loop-place l =
    let test = is_written_above l.bound (all_now l.steps) in
    list_any test l.part.reads ≡ list_any test (drop l.place l.part.reads)
