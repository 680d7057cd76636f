use Rattle.std.proofs.Common.{◌≡◌, ◌∷◌, ◌∙◌, drop, sym}
use Rattle.json.specs.Token as tokens
use Rattle.script_tokens.specs.declared.place.Place.TheVariants.{AfterValue}
use Rattle.script_tokens.specs.LeftTokens.{tokens_left}
use Rattle.script_tokens.proofs.PlaceLemmas.{takes_boolean}
use Rattle.script_tokens.proofs.tokens.Tokens.take_bool.Goals as goal

pub returns : goal.returns
returns c =
    let t = c.self.inside in
    let taken : tokens_left t.place (drop t.at t.text.now) ≡ tokens.boolean c.in_ok-value.value ∷ tokens_left AfterValue (drop c.in_ok-value.end t.text.now) =
    rw (← c.as_bytes-text.ensures.value) (takes_boolean t.place _ _ _ c.in_ok-value.value c.in_ok-start.ensures c.in_ok-value.ensures) in
    sym c.self.view_is ∙ taken
