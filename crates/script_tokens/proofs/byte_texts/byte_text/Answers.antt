use Rattle.std.proofs.Common.{◌≡◌, ◌∙◌, drop, take, sym, ap, rules}
use Rattle.std.specs.Prelude.{Some}
use Rattle.json.specs.Word.{head}
use Rattle.script_tokens.proofs.StringLemmas.{byte_text_first, byte_text_if_some}
use Rattle.script_tokens.proofs.byte_texts.byte_text.Goals as goal

pub returns-in_ok-ok-in-Some : goal.returns-in_ok-ok-in-Some
returns-in_ok-ok-in-Some c =
    let d = c.args.text.now in
    let kept = take c.in-Some.count c.short_text.new.room in
    let opened : head (drop c.args.start d) ≡ 34 = sym c.byte_at.ensures.value ∙ c.if-byte_at-ne34.false in
    let copied : c.in_ok-ok-in-Some.field-0 ≡ kept = search rules in
    let found = byte_text_first d c.args.start kept (drop c.in-Some.end d) opened c.in-Some.ensures.spelled in
    (found.0, found.1, found.2 ∙ ap (λ bytes. Some bytes) (sym copied))

pub returns-in-None : goal.returns-in-None
returns-in-None c =
    let d = c.args.text.now in
    let opened : head (drop c.args.start d) ≡ 34 = sym c.byte_at.ensures.value ∙ c.if-byte_at-ne34.false in
    byte_text_if_some d c.args.start c.long_text.result opened c.long_text.ensures
