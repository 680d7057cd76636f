-- The line is that of the answer.
use Rattle.std.proofs.Common.{length, subst}
use Rattle.std.specs.Prelude.{string_bytes}
use Rattle.threads_lines.specs.Answers.{IsCommitOf}
use Rattle.threads_lines.specs.Lines.{batch_line}
use Rattle.threads_lines.proofs.AnswerLemmas.{finished_line, refused_line}
use Rattle.threads_lines.proofs.committer.Committer.commit_and_print_batch.Goals as goal

pub returns-in_ok-print_finished_batch-in-Finished-clause-line : goal.returns-in_ok-print_finished_batch-in-Finished-clause-line
returns-in_ok-print_finished_batch-in-Finished-clause-line g c =
    let config = g.N.Naming.cells.config in
    let rows = length g.N.Naming.cells.records in
    let p = c.args.self.now.number in
    finished_line config rows p (batch_line p c.args.place) c.args.batch.now c.args.history.now c.see_finished.new.self c.in-Finished.noted c.value.result.now (string_bytes c.args.text.now) (string_bytes c.print_finished_batch.new.text)
    (subst (IsCommitOf config rows p c.args.batch.now) c.in-Finished.is c.in_ok-noted.ensures) c.in_ok-see_finished-in-Finished.ensures.seen c.value.ensures.value c.in_ok-print_finished_batch-in-Finished.ensures

pub returns-in_ok-print_refused_batch-in-NoRecord-clause-line : goal.returns-in_ok-print_refused_batch-in-NoRecord-clause-line
returns-in_ok-print_refused_batch-in-NoRecord-clause-line g c =
    let config = g.N.Naming.cells.config in
    let rows = length g.N.Naming.cells.records in
    let p = c.args.self.now.number in
    refused_line config rows p (batch_line p c.args.place) c.args.batch.now c.args.history.now c.see_end.new.history c.in-NoRecord.refusal (string_bytes c.args.text.now) (string_bytes c.print_refused_batch.new.text)
    c.in_ok-see_end-in-NoRecord.ensures.seen c.in_ok-print_refused_batch-in-NoRecord.ensures
