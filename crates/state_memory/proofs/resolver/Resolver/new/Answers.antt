-- Nothing is kept at first.
use Rattle.std.proofs.Common.{refl}
use Rattle.model.proofs.Resolvers.Growth.{new_stands}
use Rattle.state_memory.proofs.resolver.Resolver.new.Goals as goal

pub returns-clause-stands : goal.returns-clause-stands
returns-clause-stands c =
    new_stands _ (record {
      version = refl;
      written = c.in_ok-new.ensures.stands;
      rows = c.new-2.ensures.items;
      proxies = c.in_ok-new_proxy_memories.ensures.each;
    })
