use Rattle.std.proofs.Common.{◌≡◌, ◌∙◌, ◌++◌, ap}
use Rattle.sessions.proofs.OutboxLemmas.{send_later, send_nothing}
use Rattle.sessions.proofs.outbox.OutboxPage.push.Goals as goal

pub returns-then-self : goal.returns-then-self
returns-then-self g c = record { more = λ beginning before sent. send_nothing c.args.text.now c.if-self.true sent }

pub returns-then-keep_text : goal.returns-then-keep_text
returns-then-keep_text g c =
    let kept = c.args.self.now.kept.items in
    let grown : c.keep_text.new.kept.items ≡ kept ++ c.as_bytes-bytes.result.now = rw c.if-keep_text.true at c.keep_text.ensures in
    record { more = λ beginning before sent. send_later c.args.text.now c.if-self.false (grown ∙ ap (λ l. kept ++ l) c.as_bytes-bytes.ensures.value) sent }

pub returns : goal.returns
returns g c =
    let same : c.keep_text.new.kept.items ≡ c.args.self.now.kept.items = rw c.if-keep_text.false at c.keep_text.ensures in
    record { more = λ beginning before sent. rw c.as_bytes-bytes.ensures.value at (c.send.ensures.sent beginning before (rw same sent)) }
