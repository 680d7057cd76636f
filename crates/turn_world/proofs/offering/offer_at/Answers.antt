-- One resolver answers.
use Rattle.turn_world.proofs.OfferedParts.{got, offered_at}
use Rattle.turn_world.proofs.offering.offer_at.Goals as goal

pub returns : goal.returns
returns c =
    offered_at c.args.resolvers.now.items c.args.resolver c.args.request.now c.index_mut.result.now c.offer.new.self c.offer.result
    (got c.args.resolvers.now.items c.args.resolver c.index_mut.result.now c.requires c.index_mut.ensures.value)
    c.offer.ensures.answer c.offer.ensures.after c.offer.ensures.number c.offer.ensures.proxies c.offer.ensures.window c.offer.ensures.err
