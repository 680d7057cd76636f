use Rattle.std.proofs.Common.{◌≡◌, ◌∙◌, drop, sym, subst, rules}
use Rattle.std.specs.Prelude.{string_bytes}
use Rattle.json.specs.Token as tokens
use Rattle.json.specs.Word.{head}
use Rattle.script_tokens.specs.LeftTokens.{StandsFirst}
use Rattle.script_tokens.proofs.EscapeLemmas.{text_there}
use Rattle.script_tokens.proofs.texts.unescaped_text.Goals as goal

pub returns : goal.returns
returns c =
    let d = c.args.text.now in
    let start = c.args.start in
    let end = c.in_ok-found.end in
    let opened : head (drop start d) ≡ 34 = sym c.byte_at.ensures.value ∙ c.if-byte_at-ne34.false in
    let kept : string_bytes c.in_ok-unescaped.unescaped ≡ c.in_ok-found.found.items = search rules in
    subst (λ s. StandsFirst (drop start d) (tokens.string s) (drop end d)) (sym kept) (text_there d start c.in_ok-found.found.items (drop end d) opened c.in_ok-found.ensures)
