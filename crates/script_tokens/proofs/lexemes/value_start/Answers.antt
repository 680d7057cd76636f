use Rattle.std.proofs.Common.{◌∙◌, sym}
use Rattle.script_tokens.proofs.LexLemmas.{comma_at}
use Rattle.script_tokens.proofs.PlaceLemmas.{begin_after_value}
use Rattle.script_tokens.proofs.lexemes.value_start.Goals as goal

pub returns-then-byte_at-eq44 : goal.returns-then-byte_at-eq44
returns-then-byte_at-eq44 c =
    let d = c.args.text.now in
    let first = comma_at d c.skip_spaces-first.result (sym c.byte_at.ensures.value ∙ c.if-byte_at-eq44.true) in
    rw c.in-AfterValue.is (begin_after_value _ _ _ (sym c.skip_spaces-first.ensures ∙ first) c.skip_spaces.ensures)
