use Rattle.std.proofs.Common.{◌≡◌, ◌∙◌, ◌+◌, None, Some, drop, sym, ap}
use Rattle.json.specs.Json.{read_key}
use Rattle.script_tokens.specs.declared.place.Place.TheVariants.{AfterValue}
use Rattle.script_tokens.specs.LeftTokens.{tokens_left}
use Rattle.script_tokens.proofs.LexLemmas.{end_object_at}
use Rattle.script_tokens.proofs.PlaceLemmas.{takes_end_object}
use Rattle.script_tokens.proofs.tokens.Tokens.take_end_object.Goals as goal

pub returns : goal.returns
returns c =
    let t = c.self.inside in
    let end = c.skip_spaces-end.result in
    let taken : read_key (tokens_left t.place (drop t.at t.text.now)) ≡ Some (None, tokens_left AfterValue (drop (end + 1) t.text.now)) =
    rw (← c.as_bytes-text.ensures.value) (takes_end_object t.place _ _ _ c.skip_spaces-end.ensures (end_object_at _ end (sym c.byte_at.ensures.value ∙ c.if-byte_at-ne125.false))) in
    ap read_key (sym c.self.view_is) ∙ taken
