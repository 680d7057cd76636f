use Rattle.std.proofs.Common.{◌≡◌, ◌∷◌, ◌∙◌, drop, sym}
use Rattle.json.specs.Token as tokens
use Rattle.script_tokens.specs.declared.place.Place.TheVariants.{AfterValue}
use Rattle.script_tokens.specs.LeftTokens.{tokens_left}
use Rattle.script_tokens.proofs.PlaceLemmas.{takes_string}
use Rattle.script_tokens.proofs.tokens.Tokens.take_bytes.Goals as goal

pub returns : goal.returns
returns c =
    let t = c.self.inside in
    let b = c.as_bytes-text.result.now in
    let found = c.in_ok-bytes.ensures in
    let after = c.in_ok-after.after in
    let taken : tokens_left t.place (drop t.at t.text.now) ≡ tokens.string found.0 ∷ tokens_left AfterValue (drop after t.text.now) =
    rw (← c.as_bytes-text.ensures.value)
    (takes_string t.place (drop t.at b) (drop c.in_ok-start.start b) (drop c.in_ok-bytes.end b) (drop after b) found.0 c.in_ok-start.ensures found.1 c.in_ok-after.ensures.same c.in_ok-after.ensures.no_colon) in
    (found.0, sym c.self.view_is ∙ taken, found.2)
