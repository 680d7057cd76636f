use Rattle.std.proofs.Common.{◌≡◌, ◌∷◌, ◌∙◌, drop, sym, subst}
use Rattle.std.specs.Cow.{cow_str_bytes}
use Rattle.json.specs.Token as tokens
use Rattle.script_tokens.specs.declared.place.Place.TheVariants.{AfterValue}
use Rattle.script_tokens.specs.LeftTokens.{StandsFirst, tokens_left}
use Rattle.script_tokens.proofs.PlaceLemmas.{takes_string}
use Rattle.script_tokens.proofs.tokens.Tokens.take_text.Goals as goal

pub returns : goal.returns
returns c =
    let t = c.self.inside in
    let b = c.as_bytes-text.result.now in
    let start = c.in_ok-start.start in
    let inside = cow_str_bytes c.in_ok-inside.inside in
    let end = c.in_ok-inside.end in
    let after = c.in_ok-after.after in
    let first : StandsFirst (drop start b) (tokens.string inside) (drop end b) = subst (λ d. StandsFirst (drop start d) (tokens.string inside) (drop end d)) (sym c.as_bytes-text.ensures.value) c.in_ok-inside.ensures in
    let taken : tokens_left t.place (drop t.at t.text.now) ≡ tokens.string inside ∷ tokens_left AfterValue (drop after t.text.now) =
    rw (← c.as_bytes-text.ensures.value)
    (takes_string t.place (drop t.at b) (drop start b) (drop end b) (drop after b) inside c.in_ok-start.ensures first c.in_ok-after.ensures.same c.in_ok-after.ensures.no_colon) in
    sym c.self.view_is ∙ taken
