-- The move adds its owner at each key of its range.
use Rattle.std.proofs.Common.{◌≡◌, ap, arith, rules}
use Rattle.model.specs.declared.moves.Move.{Move}
use Rattle.model.specs.OwnerMaps.{OwnerMapView}
use Rattle.dated_owners.proofs.MadeMaps.{gains_move, asks_more}
use Rattle.dated_owners.proofs.owner_map.OwnerMap.move_range.Goals as goal

pub returns-clause-moved : goal.returns-clause-moved
returns-clause-moved c =
    let m : Move = record { range = c.args.range.now; date = c.args.date; dest = c.args.dest } in
    let last : c.self.inside.last_date ≡ c.args.self.now.last_date = ap (λ (map : OwnerMapView). map.last_date) c.self.view_is in
    record {
      allowed = search rules;
      resolvers = c.add_move.ensures.resolvers;
      oldest = c.add_move.ensures.oldest;
      last_date = c.in_ok-add_move.ensures.date;
      stands = gains_move c.args.self.now c.add_move.new.self m (omega arith) c.add_move.ensures.oldest c.in_ok-add_move.ensures.date c.in_ok-add_move.ensures.ok;
      asks = asks_more c.args.self.now c.add_move.new.self m (omega arith) c.add_move.ensures.oldest c.in_ok-add_move.ensures.date c.in_ok-add_move.ensures.ok;
    }
