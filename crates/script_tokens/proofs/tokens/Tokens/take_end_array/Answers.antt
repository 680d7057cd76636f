use Rattle.std.proofs.Common.{◌≡◌, ◌∙◌, ◌+◌, Some, drop, sym, ap}
use Rattle.json.specs.Json.{after_end_array}
use Rattle.script_tokens.specs.declared.place.Place.TheVariants.{AfterValue}
use Rattle.script_tokens.specs.LeftTokens.{tokens_left}
use Rattle.script_tokens.proofs.LexLemmas.{end_array_at}
use Rattle.script_tokens.proofs.PlaceLemmas.{takes_end_array}
use Rattle.script_tokens.proofs.tokens.Tokens.take_end_array.Goals as goal

pub returns : goal.returns
returns c =
    let t = c.self.inside in
    let end = c.skip_spaces-end.result in
    let taken : after_end_array (tokens_left t.place (drop t.at t.text.now)) ≡ Some (tokens_left AfterValue (drop (end + 1) t.text.now)) =
    rw (← c.as_bytes-text.ensures.value) (takes_end_array t.place _ _ _ c.skip_spaces-end.ensures (end_array_at _ end (sym c.byte_at.ensures.value ∙ c.if-byte_at-ne93.false))) in
    ap after_end_array (sym c.self.view_is) ∙ taken
