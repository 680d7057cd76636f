-- The owners of each key are merged, so walks visit the same resolvers, and the map asks as before.
use Rattle.std.proofs.Common.{ap, sym, refl}
use Rattle.model.specs.OwnerMaps.{OwnerMapView}
use Rattle.dated_owners.proofs.MadeMaps.{merge_walks, merge_asks}
use Rattle.dated_owners.proofs.owner_map.OwnerMap.merge.Goals as goal

pub returns-then-max-self-clause-walks : goal.returns-then-max-self-clause-walks
returns-then-max-self-clause-walks c =
    merge_walks c.args.self.now _ c.self.inside.pieces.entries c.merge.new.pieces.entries (sym (ap (λ (map : OwnerMapView). map.moves) c.self.view_is)) refl
    c.self.invariant.1 (c.merge.ensures.kept c.self.invariant.1) (c.merge.ensures.walks c.self.invariant.1)

pub returns-then-max-self-clause-asks : goal.returns-then-max-self-clause-asks
returns-then-max-self-clause-asks c =
    merge_asks c.args.self.now _ (ap (λ (map : OwnerMapView). map.oldest) c.self.view_is) (ap (λ (map : OwnerMapView). map.last_date) c.self.view_is)
    (merge_walks c.args.self.now _ c.self.inside.pieces.entries c.merge.new.pieces.entries (sym (ap (λ (map : OwnerMapView). map.moves) c.self.view_is)) refl
    c.self.invariant.1 (c.merge.ensures.kept c.self.invariant.1) (c.merge.ensures.walks c.self.invariant.1))
