use Rattle.std.proofs.Common.{◌∙◌, [], subst, ◌<◌, ◌≡◌, length}
use Rattle.std.specs.Prelude.{OnOk}
use Rattle.session_texts.specs.Sessions.{SessionView, after_line, answer_to}
use Rattle.session_texts.proofs.SessionLemmas.{at_fault, kept_line}
use Rattle.session_texts.proofs.text_session.TextSession.answer_line.Goals as goal

pub returns-in-Ok-answer-clause-ok : goal.returns-in-Ok-answer-clause-ok
returns-in-Ok-answer-clause-ok c =
    let held = c.in-Ok-answer.ensures.text.more c.args.room [] c.in-Ok.ensures in
    let before : SessionView = record { cluster = c.self.inside.session.cluster; answer = c.self.inside.answer.items } in
    subst (λ (view : SessionView). OnOk c.keep.result (c.keep.new.self ≡ after_line view c.args.line.now)) c.self.view_is
    (kept_line c.keep.result before c.keep.new.self c.args.line.now (c.keep.ensures.cluster ∙ c.in-Ok-answer.ensures.ok) (c.keep.ensures.kept _ _ held))

pub returns-in-Ok-answer-clause-too_long : goal.returns-in-Ok-answer-clause-too_long
returns-in-Ok-answer-clause-too_long c = λ lost.
    let held = c.in-Ok-answer.ensures.text.more c.args.room [] c.in-Ok.ensures in
    subst (λ (view : SessionView). c.args.room < length (answer_to view c.args.line.now)) c.self.view_is
    (at_fault c.keep.result _ (c.keep.ensures.lost _ _ held) lost)
