use Rattle.std.proofs.Common.{◌≡◌, ◌∙◌, ◌+◌, drop, sym, ap, subst}
use Rattle.std.specs.Prelude.{Some}
use Rattle.std.specs.Cow.{cow_str_bytes}
use Rattle.json.specs.Json.{read_key}
use Rattle.json.specs.Token as tokens
use Rattle.script_tokens.specs.declared.place.Place.TheVariants.{Fresh}
use Rattle.script_tokens.specs.LeftTokens.{StandsFirst, tokens_left}
use Rattle.script_tokens.proofs.LexLemmas.{colon_at}
use Rattle.script_tokens.proofs.PlaceLemmas.{takes_key}
use Rattle.script_tokens.proofs.tokens.Tokens.take_key.Goals as goal

pub returns : goal.returns
returns c =
    let t = c.self.inside in
    let b = c.as_bytes-text.result.now in
    let start = c.in_ok-start.start in
    let key = cow_str_bytes c.in_ok-key.key in
    let end = c.in_ok-key.end in
    let colon = c.skip_spaces-colon.result in
    let named = colon_at b colon (sym c.byte_at.ensures.value ∙ c.if-byte_at-ne58.false) in
    let first : StandsFirst (drop start b) (tokens.string key) (drop end b) = subst (λ d. StandsFirst (drop start d) (tokens.string key) (drop end d)) (sym c.as_bytes-text.ensures.value) c.in_ok-key.ensures in
    let taken : read_key (tokens_left t.place (drop t.at t.text.now)) ≡ Some (Some key, tokens_left Fresh (drop (colon + 1) t.text.now)) =
    rw (← c.as_bytes-text.ensures.value)
    (takes_key t.place (drop t.at b) (drop start b) (drop end b) (drop colon b) (drop (colon + 1) b) key c.in_ok-start.ensures first c.skip_spaces-colon.ensures named) in
    ap read_key (sym c.self.view_is) ∙ taken
