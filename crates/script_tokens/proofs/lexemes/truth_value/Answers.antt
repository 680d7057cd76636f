use Rattle.std.proofs.Common.{◌≡◌, ◌∙◌, drop, sym, ap, subst, true, false}
use Rattle.std.proofs.lemmas.List.{drop-drop, take_rest}
use Rattle.json.specs.Token as tokens
use Rattle.json.specs.Word.{head}
use Rattle.script_tokens.specs.LeftTokens.{StandsFirst}
use Rattle.script_tokens.proofs.LexLemmas.{ends}
use Rattle.script_tokens.proofs.NumberLemmas.{true_first, false_first}
use Rattle.script_tokens.proofs.lexemes.truth_value.Goals as goal

pub returns-then-ends_word : goal.returns-then-ends_word
returns-then-ends_word c =
    let d = c.args.text.now in
    let start = c.args.start in
    let rest : c.in_ok-rest.rest.now ≡ drop start d = c.in_ok-rest.ensures.lookup.0.2 ∙ take_rest d start in
    let behind = drop-drop 4 start d in
    let ended = ap (λ t. ends (head t)) behind ∙ ap ends (sym c.byte_at.ensures.value) ∙ sym c.ends_word.ensures ∙ c.if-ends_word.true in
    let found : StandsFirst (drop start d) (tokens.boolean true) (drop 4 (drop start d)) =
    true_first (drop start d) (rw rest at (sym c.starts_with.ensures.value ∙ c.if-starts_with.true)) ended in
    subst (StandsFirst (drop start d) (tokens.boolean true)) behind found

pub returns-then-ends_word-2 : goal.returns-then-ends_word-2
returns-then-ends_word-2 c =
    let d = c.args.text.now in
    let start = c.args.start in
    let rest : c.in_ok-rest.rest.now ≡ drop start d = c.in_ok-rest.ensures.lookup.0.2 ∙ take_rest d start in
    let behind = drop-drop 5 start d in
    let ended = ap (λ t. ends (head t)) behind ∙ ap ends (sym c.byte_at-then-starts_with-2.ensures.value) ∙ sym c.ends_word-then-starts_with-2.ensures ∙ c.if-ends_word-2.true in
    let found : StandsFirst (drop start d) (tokens.boolean false) (drop 5 (drop start d)) =
    false_first (drop start d) (rw rest at (sym c.starts_with-else-starts_with.ensures.value ∙ c.if-starts_with-2.true)) ended in
    subst (StandsFirst (drop start d) (tokens.boolean false)) behind found
