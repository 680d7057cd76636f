use Rattle.std.proofs.Common.{◌≡◌, ◌∙◌, length, drop, sym}
use Rattle.std.proofs.lemmas.Bool.{leb-true}
use Rattle.json.specs.Lex.{between, lex}
use Rattle.script_tokens.proofs.LexLemmas.{nothing_at}
use Rattle.script_tokens.proofs.PlaceLemmas.{nothing_left}
use Rattle.script_tokens.proofs.tokens.Tokens.is_at_end.Goals as goal

pub returns : goal.returns
returns c end =
    let t = c.self.inside in
    let d = t.text.now in
    let past = leb-true (length d) c.skip_spaces.result end in
    let same : lex between (drop c.skip_spaces.result d) ≡ lex between (drop t.at d) = rw (← c.as_bytes.ensures.value) c.skip_spaces.ensures in
    sym c.self.view_is ∙ nothing_left t.place (drop t.at d) (drop c.skip_spaces.result d) same (nothing_at d c.skip_spaces.result past)
