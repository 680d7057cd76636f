use Rattle.std.proofs.Common.{◌∙◌, sym}
use Rattle.std.proofs.lemmas.Bool.{false≢true}
use Rattle.sessions.proofs.OutboxLemmas.{line_end_some, nothing_answered}
use Rattle.sessions.proofs.outbox.answer_open_line.Goals as goal

pub returns-then-is_empty-clause-feeds : goal.returns-then-is_empty-clause-feeds
returns-then-is_empty-clause-feeds g c = λ open_line holds.
    nothing_answered _ _ _ open_line _ ((c.is_empty.ensures open_line holds).0 c.if-is_empty.true) holds

pub returns-clause-feeds : goal.returns-clause-feeds
returns-clause-feeds g c = λ open_line holds.
    let some = line_end_some open_line (λ none. false≢true (sym c.if-is_empty.false ∙ (c.is_empty.ensures open_line holds).1 none)) in
    rw (← some) (c.answer_bytes.ensures.feeds open_line holds)
