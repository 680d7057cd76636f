use Rattle.std.proofs.Common.{◌≡◌, ◌∙◌, drop, sym, arith}
use Rattle.json.specs.Word.{head}
use Rattle.script_tokens.proofs.LexLemmas.{byte_there}
use Rattle.script_tokens.proofs.StringLemmas.{text_first}
use Rattle.script_tokens.proofs.lexemes.text_end.Goals as goal

pub returns-then-byte_at-eq34-clause-first : goal.returns-then-byte_at-eq34-clause-first
returns-then-byte_at-eq34-clause-first c =
    let d = c.args.text.now in
    let opened : head (drop c.args.start d) ≡ 34 = sym c.byte_at.ensures.value ∙ c.if-byte_at-ne34.false in
    let closed : head (drop c.loop-end.end d) ≡ 34 = sym c.byte_at-2.ensures.value ∙ c.if-byte_at-eq34.true in
    let there = byte_there d c.loop-end.end 34 closed (λ e. omega arith) in
    text_first d c.args.start c.loop-end.end opened c.loop-end.invariant.behind there.0 c.loop-end.invariant.own there.1
