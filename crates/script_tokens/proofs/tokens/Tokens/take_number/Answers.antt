use Rattle.std.proofs.Common.{◌≡◌, ◌∷◌, ◌∙◌, drop, sym}
use Rattle.json.specs.Token as tokens
use Rattle.script_tokens.specs.declared.place.Place.TheVariants.{AfterValue}
use Rattle.script_tokens.specs.LeftTokens.{tokens_left}
use Rattle.script_tokens.proofs.PlaceLemmas.{takes_number}
use Rattle.script_tokens.proofs.tokens.Tokens.take_number.Goals as goal

pub returns : goal.returns
returns c =
    let t = c.self.inside in
    let found = c.in_ok-number.ensures in
    let taken : tokens_left t.place (drop t.at t.text.now) ≡ tokens.number found.0 ∷ tokens_left AfterValue (drop c.in_ok-number.end t.text.now) =
    rw (← c.as_bytes-text.ensures.value) (takes_number t.place _ _ _ found.0 c.in_ok-start.ensures found.1) in
    (found.0, sym c.self.view_is ∙ taken, found.2)
