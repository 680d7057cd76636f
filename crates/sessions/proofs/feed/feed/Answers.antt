use Rattle.std.proofs.Common.{◌≡◌, ◌+◌, [], ◌∷◌, ◌++◌, take, ap, ◌∙◌, arith}
use Rattle.std.proofs.lemmas.List.{take_all, take_more}
use Rattle.sessions.specs.Lines.{open_from}
use Rattle.sessions.proofs.FeedLemmas.{feeds_all, feeds_byte, feeds_line, feeds_nothing}
use Rattle.sessions.proofs.feed.feed.Goals as goal
use Rattle.sessions.proofs.feed.feed.Goals.{then-byte-eq-LINE_FEED, else-byte-eq-LINE_FEED}

pub loop-byte-init : goal.loop-byte-init
loop-byte-init g c = λ open_line holds. feeds_nothing _ _ _ open_line _ holds

pub loop-byte-preserved : goal.loop-byte-preserved
loop-byte-preserved g c =
    let i = c.loop-byte.byte-index in
    let bytes = c.args.bytes.now in
    let more = take_more bytes i 0 c.loop-byte-test.true in
    elim c.if-byte-eq-LINE_FEED.branch [
      | then-byte-eq-LINE_FEED w ↦ λ open_line holds.
          let taken : take (i + 1) bytes ≡ take i bytes ++ 10 ∷ [] = more ∙ ap (λ b. take i bytes ++ b ∷ []) w.if-byte-eq-LINE_FEED.true in
          let fed = c.loop-byte.invariant open_line holds in
          let line = w.answer_line.ensures (open_from open_line (take i bytes)) fed.held in
          rw (w.answering-is, w.page-is, w.pending-is, taken) (feeds_line fed line w.clear.ensures)
      | else-byte-eq-LINE_FEED w ↦ λ open_line holds.
          rw (w.answering-is, w.page-is, w.pending-is, more)
          (feeds_byte w.if-byte-eq-LINE_FEED.false w.push.ensures (c.loop-byte.invariant open_line holds))
    ]

pub returns : goal.returns
returns g c = λ open_line holds.
    feeds_all (take_all c.loop-byte.byte-index c.args.bytes.now (omega arith)) (c.loop-byte.invariant open_line holds)
