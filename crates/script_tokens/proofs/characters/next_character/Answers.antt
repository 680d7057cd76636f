use Rattle.std.proofs.Common.{◌≡◌, ◌∙◌, ◌<◌, length, sym, arith}
use Rattle.script_tokens.proofs.EscapeLemmas.{own_stands}
use Rattle.script_tokens.proofs.characters.next_character.Goals as goal

pub returns-then-is_own_byte-clause-stands : goal.returns-then-is_own_byte-clause-stands
returns-then-is_own_byte-clause-stands c =
    let within : c.args.at < length c.args.text.now = omega (arith, c.requires, c.if-at-text.false) in
    own_stands c.args.text.now c.args.at within (sym c.is_own_byte.ensures ∙ c.if-is_own_byte.true)
