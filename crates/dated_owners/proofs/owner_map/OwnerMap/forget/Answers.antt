-- The front that is forgotten grows, at each key.
use Rattle.std.proofs.Common.{◌≡◌, ap, sym, refl, arith}
use Rattle.model.specs.OwnerMaps.{OwnerMapView}
use Rattle.dated_owners.proofs.MadeMaps.{forget_stands, forget_asks, sweep_stands, sweep_asks}
use Rattle.dated_owners.proofs.owner_map.OwnerMap.forget.Goals as goal

pub returns-then-is_sweep_due-clause-stands : goal.returns-then-is_sweep_due-clause-stands
returns-then-is_sweep_due-clause-stands c = λ moves stands.
    let before : c.self.inside.oldest ≡ c.args.self.now.oldest = ap (λ (map : OwnerMapView). map.oldest) c.self.view_is in
    sweep_stands c.args.self.now _ c.self.inside.pieces.entries c.sweep.new.pieces.entries moves stands (omega arith)
    (ap (λ (map : OwnerMapView). map.last_date) c.self.view_is) (sym (ap (λ (map : OwnerMapView). map.moves) c.self.view_is)) refl c.self.invariant.1 c.sweep.ensures.swept

pub returns-else-is_sweep_due-clause-stands : goal.returns-else-is_sweep_due-clause-stands
returns-else-is_sweep_due-clause-stands c = λ moves stands.
    let before : c.self.inside.oldest ≡ c.args.self.now.oldest = ap (λ (map : OwnerMapView). map.oldest) c.self.view_is in
    forget_stands c.args.self.now _ moves stands (omega arith) (ap (λ (map : OwnerMapView). map.last_date) c.self.view_is) (ap (λ (map : OwnerMapView). map.moves) c.self.view_is)

pub returns-then-is_sweep_due-clause-asks : goal.returns-then-is_sweep_due-clause-asks
returns-then-is_sweep_due-clause-asks c = λ moves asks.
    let before : c.self.inside.oldest ≡ c.args.self.now.oldest = ap (λ (map : OwnerMapView). map.oldest) c.self.view_is in
    sweep_asks c.args.self.now _ c.self.inside.pieces.entries c.sweep.new.pieces.entries moves asks (omega arith)
    (ap (λ (map : OwnerMapView). map.last_date) c.self.view_is) (sym (ap (λ (map : OwnerMapView). map.moves) c.self.view_is)) refl c.self.invariant.1 c.sweep.ensures.swept

pub returns-else-is_sweep_due-clause-asks : goal.returns-else-is_sweep_due-clause-asks
returns-else-is_sweep_due-clause-asks c = λ moves asks.
    let before : c.self.inside.oldest ≡ c.args.self.now.oldest = ap (λ (map : OwnerMapView). map.oldest) c.self.view_is in
    forget_asks c.args.self.now _ moves asks (omega arith) (ap (λ (map : OwnerMapView). map.last_date) c.self.view_is) (ap (λ (map : OwnerMapView). map.moves) c.self.view_is)
