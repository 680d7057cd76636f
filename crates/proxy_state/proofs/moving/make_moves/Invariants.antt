-- The map has gained the moves so far, and may gain the others. With the others it has gained all.
use Rattle.std.proofs.Common.{drop}
use Rattle.model.specs.OwnerMaps.{OwnerMapView}
use Rattle.proxy_state.specs.Beginning.{MayGain, HasGained}
use Rattle.proxy_state.proofs.moving.make_moves.Given as goal

abbrev pub invariant-loop-place : goal.invariant-loop-place
invariant-loop-place l = record {
  all : (after : OwnerMapView) → HasGained l.owners (drop l.place l.moves) after
      → HasGained l.fn.owners (drop l.from l.moves) after;
  may : MayGain l.owners (drop l.place l.moves);
}
