-- The line is that of the answer.
use Rattle.std.proofs.Common.{List, length, subst}
use Rattle.std.specs.Prelude.{string_bytes}
use Rattle.model.specs.Stamps.{AdmittedTransaction}
use Rattle.threads_lines.specs.Answers.{IsCommitOf, IsLineOf}
use Rattle.threads_lines.specs.Lines.{closing_line}
use Rattle.threads_lines.specs.Parts.{GrowsBy}
use Rattle.threads_lines.proofs.AnswerLemmas.{finished_line, refused_line}
use Rattle.threads_lines.proofs.committer.Committer.commit_and_print_closing.Goals as goal

pub returns-in_ok-print_closing_version-in-Finished-clause-line : goal.returns-in_ok-print_closing_version-in-Finished-clause-line
returns-in_ok-print_closing_version-in-Finished-clause-line g c =
    let config = g.N.Naming.cells.config in
    let rows = length g.N.Naming.cells.records in
    let p = c.args.self.now.number in
    let old = string_bytes c.args.text.now in
    let new = string_bytes c.print_closing_version.new.text in
    let before = c.args.history.now in
    let after = c.see_finished.new.self in
    subst (λ (batch : List AdmittedTransaction). GrowsBy (IsLineOf config rows p (closing_line p) batch before after) old new) c.requires
    (finished_line config rows p (closing_line p) c.args.empty.now before after c.in-Finished.noted c.value.result.now old new
    (subst (IsCommitOf config rows p c.args.empty.now) c.in-Finished.is c.in_ok-noted.ensures) c.in_ok-see_finished-in-Finished.ensures.seen c.value.ensures.value c.in_ok-print_closing_version-in-Finished.ensures)

pub returns-in_ok-print_refused_closing-in-NoRecord-clause-line : goal.returns-in_ok-print_refused_closing-in-NoRecord-clause-line
returns-in_ok-print_refused_closing-in-NoRecord-clause-line g c =
    let config = g.N.Naming.cells.config in
    let rows = length g.N.Naming.cells.records in
    let p = c.args.self.now.number in
    refused_line config rows p (closing_line p) _ c.args.history.now c.see_end.new.history c.in-NoRecord.refusal (string_bytes c.args.text.now) (string_bytes c.print_refused_closing.new.text)
    c.in_ok-see_end-in-NoRecord.ensures.seen c.in_ok-print_refused_closing-in-NoRecord.ensures
