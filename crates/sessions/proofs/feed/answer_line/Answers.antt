use Rattle.std.proofs.Common.{◌∙◌}
use Rattle.sessions.proofs.FeedLemmas.{line_answered, line_lost, line_unanswered}
use Rattle.sessions.proofs.feed.answer_line.Goals as goal

pub returns-then-pending : goal.returns-then-pending
returns-then-pending g c = λ line holds. line_lost c.push.ensures

pub returns-in-Ok : goal.returns-in-Ok
returns-in-Ok g c = λ line holds.
    line_answered (c.as_slice.ensures.value ∙ holds.bytes c.if-pending.false) c.in-Ok.ensures.text c.in-Ok.ensures.ok

pub returns-in-Err : goal.returns-in-Err
returns-in-Err g c = λ line holds. line_unanswered c.in-Err.ensures.unprinted c.in-Err.ensures.unchanged c.push-in-Err.ensures
