use Rattle.script_tokens.proofs.EscapeLemmas.{code_of_ascii}
use Rattle.script_tokens.proofs.characters.ascii_of_digits.Goals as goal

pub returns-then-high-lt8-clause-code : goal.returns-then-high-lt8-clause-code
returns-then-high-lt8-clause-code c =
    code_of_ascii _ _ _ _ _ _ c.if-text-at-ne48.false c.if-text-at-ne48-2.false c.in_ok-high.ensures.value c.in_ok-low.ensures.value c.in_ok-high.ensures.digit c.in_ok-low.ensures.digit
