use Rattle.std.proofs.Common.{ℕ, List, take}
use Rattle.sessions.specs.Feeds.{Feeds}
use Rattle.sessions.specs.Pending.{Holds}
use Rattle.sessions.proofs.feed.feed.Given as goal

abbrev pub invariant-loop-byte : goal.invariant-loop-byte
invariant-loop-byte g l =
    let state = g.A.Answering.state in
    (open_line : List ℕ) → Holds l.fn.pending open_line
    → Feeds g.A.Answering.rules g.P.Page.has_printed (state l.fn.answering) (state l.answering) l.fn.page l.page open_line (take l.byte-index l.bytes) l.pending
