-- The map that gained the further moves is one for the record.
use Rattle.std.proofs.Common.{◌≡◌, ◌-◌, ◌≤◌, rules}
use Rattle.std.proofs.lemmas.Result.{IfOk-weaker}
use Rattle.proxy_state.proofs.KeptProxies.{has_map}
use Rattle.proxy_state.proofs.proxy.Proxy.map_with_moves.Goals as goal

pub returns-clause-map : goal.returns-clause-map
returns-clause-map c =
    let v = c.args.self.now in
    let rec = c.args.rec.now in
    let resolvers : v.owned.resolvers ≡ v.config.resolvers = rw (← c.self.view_is) c.self.invariant.resolvers in
    let remembered : v.owned.oldest ≤ v.last_begun - v.config.window = rw (← c.self.view_is) c.self.invariant.remembered in
    let own : rec.own_previous ≡ v.last_begun = search rules in
    IfOk-weaker c.next_map.result _ _ (λ map gained. has_map v rec map resolvers remembered own c.requires.may (search rules)) c.next_map.ensures.gained
