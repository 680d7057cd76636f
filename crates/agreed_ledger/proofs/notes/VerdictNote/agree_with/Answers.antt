use Rattle.std.proofs.Common.{subst}
use Rattle.agreed_ledger.specs.Cells.{NoteAgreesWith, NotedVerdicts, row_note}
use Rattle.agreed_ledger.proofs.StretchLaws.{agrees_with, lacking_agrees}
use Rattle.agreed_ledger.proofs.notes.VerdictNote.agree_with.Goals as goal

pub returns-in_default-clause-agree : goal.returns-in_default-clause-agree
returns-in_default-clause-agree g c same =
    subst (λ (v : NotedVerdicts). NoteAgreesWith (row_note v) c.args.column.now.rows) c.self.view_is
    (lacking_agrees (record { row = c.self.inside.row; known = c.self.inside.note.known }) c.args.column.now.rows c.in_default.ensures.value)

pub returns-clause-agree : goal.returns-clause-agree
returns-clause-agree g c same =
    subst (λ (v : NotedVerdicts). NoteAgreesWith (row_note v) c.args.column.now.rows) c.self.view_is
    (agrees_with (record { row = c.self.inside.row; known = c.self.inside.note.known }) c.args.column.now.rows c.in-Some.fact.value c.in-Some.ensures.value c.agrees_with.ensures.1)
