-- Whom the map's own moves ask, each list of moves asks as which it asks.
use Rattle.std.proofs.Common.{◌≡◌, ◌∙◌, ap, max}
use Rattle.model.specs.OwnerMaps.{OwnerMapView, readers}
use Rattle.model.proofs.Owners.Asking.{asked_readers}
use Rattle.dated_owners.proofs.owner_map.OwnerMap.readers.Goals as goal

pub returns : goal.returns
returns c =
    let bound : c.max.result ≡ max c.args.snapshot c.args.self.now.oldest = c.max.ensures ∙ ap (λ (map : OwnerMapView). max c.args.snapshot map.oldest) c.self.view_is in
    λ moves asks.
    c.resolvers_on_walk.ensures
    ∙ ap (λ b. readers c.args.self.now.resolvers c.args.self.now.moves b c.args.range.now) bound
    ∙ asked_readers c.args.self.now moves c.args.snapshot c.args.range.now asks
