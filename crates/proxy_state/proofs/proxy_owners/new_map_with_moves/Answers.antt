-- The moves are made in a map before any move, which then forgets.
use Rattle.proxy_state.proofs.HeldMaps.{again_alike}
use Rattle.proxy_state.proofs.proxy_owners.new_map_with_moves.Goals as goal

pub returns : goal.returns
returns c =
    again_alike c.args.resolvers c.args.oldest c.args.moves.now c.in_ok-owners.owners c.remake_moves.new.owners c.forget.new.self c.in_ok-owners.ensures.resolvers c.in_ok-owners.ensures.oldest c.in_ok-owners.ensures.stands
    c.in_ok-remake_moves.ensures c.forget.ensures.resolvers c.forget.ensures.oldest c.forget.ensures.stands
