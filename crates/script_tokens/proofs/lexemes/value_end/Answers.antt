use Rattle.std.proofs.Common.{◌∙◌, ap, sym}
use Rattle.script_tokens.specs.LeftTokens.{ends_value}
use Rattle.script_tokens.proofs.LexLemmas.{no_colon_at}
use Rattle.script_tokens.proofs.lexemes.value_end.Goals as goal

pub returns-then-ends_value-clause-no_colon : goal.returns-then-ends_value-clause-no_colon
returns-then-ends_value-clause-no_colon c =
    no_colon_at c.args.text.now c.skip_spaces-end.result (ap ends_value (sym c.byte_at.ensures.value) ∙ sym c.ends_value.ensures ∙ c.if-ends_value.true)
