-- The changes of what is left divide the keys.
use Rattle.std.proofs.Common.{◌∙◌, ap, sym, suc, []}
use Rattle.model.specs.OwnerMaps.{OwnerMapView}
use Rattle.dated_owners.specs.Starts.{changes}
use Rattle.dated_owners.proofs.CountedPieces.{counts_pieces}
use Rattle.dated_owners.proofs.owner_map.OwnerMap.pieces.Goals as goal

pub returns : goal.returns
returns c =
    counts_pieces c.args.self.now c.self.inside.pieces.entries c.count_pieces.result (sym (ap (λ (map : OwnerMapView). map.moves) c.self.view_is)) c.self.invariant.1
    (c.count_pieces.ensures ∙ ap (λ (map : OwnerMapView). suc (changes map.oldest [] c.self.inside.pieces.entries)) c.self.view_is)
