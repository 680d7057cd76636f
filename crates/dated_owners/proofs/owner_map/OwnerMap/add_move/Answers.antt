-- The owner is added at each key of the range.
use Rattle.std.proofs.Common.{◌≡◌, ◌∙◌, ◌∷◌, ◌++◌, [], ap, sym, refl, cond}
use Rattle.system_keys.specs.Keys.{Range, holds}
use Rattle.model.specs.OwnerMaps.{OwnerMapView}
use Rattle.dated_owners.specs.declared.later_owners.LaterOwner.{LaterOwner}
use Rattle.dated_owners.specs.Starts.{value_from, moves_of}
use Rattle.dated_owners.proofs.MadeMaps.{adds_owner}
use Rattle.dated_owners.proofs.owner_map.OwnerMap.add_move.Goals as goal

pub returns-clause-ok : goal.returns-clause-ok
returns-clause-ok c =
    let owner : LaterOwner = record { date = c.args.date; resolver = c.args.dest } in
    let range : Range = record { begin = c.in_ok-begin.begin; end = c.end_bytes-end.result.now } in
    let begin = c.in_ok-begin.ensures.copy ∙ c.begin.ensures.value in
    let same : range ≡ c.args.range.now = λ i. record { begin = begin i; end = c.end_bytes-end.ensures i } in
    let next : OwnerMapView = record { resolvers = c.self.inside.resolvers; last_date = c.args.date; oldest = c.self.inside.oldest; moves = moves_of c.add_owner.new.pieces.entries } in
    let old = c.self.inside.pieces.entries in
    adds_owner c.args.self.now next old c.add_owner.new.pieces.entries (record { range = c.args.range.now; date = c.args.date; dest = c.args.dest }) owner refl
    (ap (λ (map : OwnerMapView). map.oldest) c.self.view_is) (sym (ap (λ (map : OwnerMapView). map.moves) c.self.view_is)) refl c.self.invariant.1 c.in_ok-grown.ensures.kept
    (λ key. c.in_ok-grown.ensures.ok key ∙ ap (λ (r : Range). cond (holds r key) (value_from [] old key ++ owner ∷ []) (value_from [] old key)) same)
