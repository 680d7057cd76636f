use Rattle.std.proofs.Common.{◌≡◌, ◌∷◌, ◌∙◌, ◌+◌, drop, sym}
use Rattle.json.specs.Token as tokens
use Rattle.script_tokens.specs.declared.place.Place.TheVariants.{Fresh}
use Rattle.script_tokens.specs.LeftTokens.{tokens_left}
use Rattle.script_tokens.proofs.LexLemmas.{begin_array_at}
use Rattle.script_tokens.proofs.PlaceLemmas.{takes_begin_array}
use Rattle.script_tokens.proofs.tokens.Tokens.take_begin_array.Goals as goal

pub returns-in-Some : goal.returns-in-Some
returns-in-Some c =
    let t = c.self.inside in
    let start = c.in-Some.start in
    let taken : tokens_left t.place (drop t.at t.text.now) ≡ tokens.begin_array ∷ tokens_left Fresh (drop (start + 1) t.text.now) =
    rw (← c.as_bytes-text.ensures.value) (takes_begin_array t.place _ _ _ c.in-Some.ensures (begin_array_at _ start (sym c.byte_at.ensures.value ∙ c.if-byte_at-eq91.true))) in
    sym c.self.view_is ∙ taken
