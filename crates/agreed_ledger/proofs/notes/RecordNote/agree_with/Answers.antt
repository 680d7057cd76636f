use Rattle.std.proofs.Common.{subst}
use Rattle.model.specs.Records.{Record}
use Rattle.agreed_ledger.specs.Cells.{NoteAgreesWith, NoteView}
use Rattle.agreed_ledger.proofs.StretchLaws.{agrees_with, lacking_agrees}
use Rattle.agreed_ledger.proofs.notes.RecordNote.agree_with.Goals as goal

pub returns-in_default-clause-agree : goal.returns-in_default-clause-agree
returns-in_default-clause-agree g c =
    subst (λ (v : NoteView Record). NoteAgreesWith v c.args.records.now) c.self.view_is
    (lacking_agrees (record { row = c.self.inside.row; known = c.self.inside.note.known }) c.args.records.now c.in_default.ensures.value)

pub returns-clause-agree : goal.returns-clause-agree
returns-clause-agree g c =
    subst (λ (v : NoteView Record). NoteAgreesWith v c.args.records.now) c.self.view_is
    (agrees_with (record { row = c.self.inside.row; known = c.self.inside.note.known }) c.args.records.now c.in-Some.fact.value c.in-Some.ensures.value c.agrees_with.ensures.1)
