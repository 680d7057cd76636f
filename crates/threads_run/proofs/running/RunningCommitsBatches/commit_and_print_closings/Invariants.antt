-- The lines so far are those of the proxies so far.
use Rattle.std.specs.Prelude.{length, string_bytes}
use Rattle.threads_lines.specs.Answers.{AreClosingLines}
use Rattle.threads_lines.specs.Histories.{IsStartOf}
use Rattle.threads_lines.specs.Parts.{GrowsBy}
use Rattle.threads_run.proofs.running.RunningCommitsBatches.commit_and_print_closings.Given as goal

abbrev pub invariant-loop-number : goal.invariant-loop-number
invariant-loop-number g l = record {
  kept : IsStartOf l.fn.history.records l.history.records;
  closings : GrowsBy (AreClosingLines g.N.Naming.cells.config (length g.N.Naming.cells.records) l.number l.fn.history l.history) (string_bytes l.fn.text) (string_bytes l.text);
}
