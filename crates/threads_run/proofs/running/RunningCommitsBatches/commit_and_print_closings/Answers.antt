-- One more closing is printed.
use Rattle.std.proofs.Common.{ℕ, length, subst}
use Rattle.std.specs.Prelude.{string_bytes}
use Rattle.threads_lines.specs.Answers.{IsClosingLine}
use Rattle.threads_lines.specs.Parts.{GrowsBy}
use Rattle.threads_lines.proofs.HistoryLemmas.{start_more}
use Rattle.threads_lines.proofs.PartLemmas.{one_more_turn}
use Rattle.threads_run.proofs.running.RunningCommitsBatches.commit_and_print_closings.Goals as goal

pub loop-number-preserved : goal.loop-number-preserved
loop-number-preserved g c =
    let l = c.loop-number in
    let config = g.N.Naming.cells.config in
    let rows = length g.N.Naming.cells.records in
    let first = c.args.history.now in
    let last = c.commit_and_print_closing.new.history in
    record {
      kept = start_more first.records l.history.records last.records l.invariant.kept c.commit_and_print_closing.ensures.kept;
      closings = one_more_turn (IsClosingLine config rows) first l.history last l.number (string_bytes c.args.text.now) (string_bytes l.text) (string_bytes c.commit_and_print_closing.new.text) l.invariant.closings
          (subst (λ (p : ℕ). GrowsBy (IsClosingLine config rows p l.history last) (string_bytes l.text) (string_bytes c.commit_and_print_closing.new.text)) c.committer.ensures.number c.in_ok-commit_and_print_closing.ensures.line);
    }
