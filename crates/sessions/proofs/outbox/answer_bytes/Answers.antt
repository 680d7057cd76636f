use Rattle.std.proofs.Common.{◌∙◌, ap, subst, sym}
use Rattle.sessions.proofs.OutboxLemmas.{answered_at_end, bytes_answered, bytes_unwritten, holds_some, sent_nothing}
use Rattle.sessions.proofs.outbox.answer_bytes.Goals as goal

pub returns-then-has_failed-clause-feeds : goal.returns-then-has_failed-clause-feeds
returns-then-has_failed-clause-feeds g c = λ open_line holds.
    let fed = c.feed.ensures open_line holds in
    let first = fed.printed.more _ _ (sent_nothing c.new.ensures.items) in
    let sent = c.send.ensures.sent _ _ first in
    answered_at_end g.T.Device.view (c.device-1.given.1 (sym sent.same)) (bytes_unwritten _ fed.text fed.answers sent)

pub returns-then-has_failed-clause-failed : goal.returns-then-has_failed-clause-failed
returns-then-has_failed-clause-failed g c =
    let (open_line, holds) = holds_some c.args.pending.now in
    let fed = c.feed.ensures open_line holds in
    let first = fed.printed.more _ _ (sent_nothing c.new.ensures.items) in
    let sent = c.send.ensures.sent _ _ first in
    let last = c.device-1.given.1 (sym sent.same) in
    subst (λ d. g.T.Device.write_fails (g.T.Device.failures c.args.device.now) (g.T.Device.failures d)) (sym last) (sent.failed c.if-has_failed.true)

pub returns-clause-feeds : goal.returns-clause-feeds
returns-clause-feeds g c = λ open_line holds.
    let fed = c.feed.ensures open_line holds in
    let first = fed.printed.more _ _ (sent_nothing c.new.ensures.items) in
    let sent = c.send.ensures.sent _ _ first in
    answered_at_end g.T.Device.view (c.device-1.given.1 (sym sent.same))
    (bytes_answered fed.text fed.answers fed.held sent c.if-has_failed.false (c.send.ensures.none_kept c.if-has_failed.false))

pub returns-clause-unfailed : goal.returns-clause-unfailed
returns-clause-unfailed g c =
    let (open_line, holds) = holds_some c.args.pending.now in
    let fed = c.feed.ensures open_line holds in
    let first = fed.printed.more _ _ (sent_nothing c.new.ensures.items) in
    let sent = c.send.ensures.sent _ _ first in
    ap g.T.Device.failures (c.device-1.given.1 (sym sent.same)) ∙ (sent.unfailed c.if-has_failed.false).1
