-- The owners at the starts say the same as the moves.
use Rattle.std.proofs.Common.{◌≡◌, ◌∙◌, ap, ap₂, true}
use Rattle.system_keys.specs.Keys.{Range, is_key_below}
use Rattle.system_keys.proofs.KeyLaws.{begins_below}
use Rattle.model.specs.OwnerMaps.{OwnerMapView}
use Rattle.dated_owners.specs.Starts.{moves_of}
use Rattle.dated_owners.specs.Walks.{asked_resolvers}
use Rattle.dated_owners.proofs.AskedStarts.{asked_resolvers_are}
use Rattle.dated_owners.proofs.owner_map.OwnerMap.resolvers_on_walk.Goals as goal

pub asked_resolvers-requires-clause-rising : goal.asked_resolvers-requires-clause-rising
asked_resolvers-requires-clause-rising c =
    ap₂ is_key_below c.begin.ensures.value c.end_bytes-end.ensures
    ∙ begins_below c.args.range.now.begin c.args.range.now.end c.begin.ensures.kept

pub returns : goal.returns
returns c =
    let range : Range = record { begin = c.begin.result.now; end = c.end_bytes-end.result.now } in
    let begin = c.begin.ensures.value in
    let end = c.end_bytes-end.ensures in
    let same : range ≡ c.args.range.now = λ i. record { begin = begin i; end = end i } in
    let forward : is_key_below range.begin range.end ≡ true = ap₂ is_key_below begin end ∙ begins_below c.args.range.now.begin c.args.range.now.end c.begin.ensures.kept in
    let ss = c.self.inside.pieces.entries in
    c.asked_resolvers.ensures
    ∙ asked_resolvers_are c.self.inside.resolvers ss c.args.walk range c.self.invariant.1 forward
    ∙ ap (λ (r : Range). asked_resolvers c.self.inside.resolvers (moves_of ss) c.args.walk r) same
    ∙ ap (λ (map : OwnerMapView). asked_resolvers map.resolvers map.moves c.args.walk c.args.range.now) c.self.view_is
