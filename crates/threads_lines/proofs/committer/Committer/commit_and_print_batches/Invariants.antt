-- The lines so far are those of answers to the batches so far.
use Rattle.std.specs.Prelude.{length, string_bytes}
use Rattle.threads_lines.specs.Answers.{IsBatchLine}
use Rattle.threads_lines.specs.Parts.{GrowsBy, IsInTurns}
use Rattle.threads_lines.proofs.committer.Committer.commit_and_print_batches.Given as goal

abbrev pub invariant-loop-place : goal.invariant-loop-place
invariant-loop-place g l = GrowsBy (IsInTurns (IsBatchLine g.N.Naming.cells.config (length g.N.Naming.cells.records) l.self.number l.batches) l.fn.history l.place l.history) (string_bytes l.fn.text) (string_bytes l.text)
