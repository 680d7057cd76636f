use Rattle.std.proofs.Common.{◌≡◌, ◌∙◌, ◌+◌, ◌≤◌, length, sym, refl, arith}
use Rattle.script_tokens.proofs.EscapeLemmas.{code_stands, short_stands}
use Rattle.script_tokens.proofs.characters.escaped_character.Goals as goal

pub returns-then-text-at-ne117-clause-stands : goal.returns-then-text-at-ne117-clause-stands
returns-then-text-at-ne117-clause-stands c =
    let within : c.args.at + 2 ≤ length c.args.text.now = omega (arith, c.requires.within, c.if-text-at-lt2.false) in
    short_stands c.args.text.now c.args.at c.in_ok-short_escape.field-0 within c.requires.backslash (sym c.short_escape.ensures ∙ c.in_ok-short_escape.was)

pub returns-clause-stands : goal.returns-clause-stands
returns-clause-stands c =
    let within : c.args.at + 6 ≤ length c.args.text.now = omega (arith, c.requires.within, c.if-text-at-lt6.false) in
    let code = c.in_ok-ascii_of_digits in
    code_stands c.args.text.now c.args.at (c.args.at + 2) code.field-0 refl within c.requires.backslash c.if-text-at-ne117.false code.ensures.ascii code.ensures.code
