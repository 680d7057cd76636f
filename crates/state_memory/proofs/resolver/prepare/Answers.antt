-- What is allocated for a request.
use Rattle.std.proofs.Common.{rules, ◌≡◌, length, vec_len, arith}
use Rattle.state_memory.proofs.resolver.prepare.Goals as goal

pub index-requires : goal.index-requires
index-requires c =
    let many : vec_len c.args.proxies.now ≡ length c.args.proxies.now.items = search rules in
    omega (arith, c.requires.there, many, c.proxy-place.ensures)

pub reserve_reply-requires : goal.reserve_reply-requires
reserve_reply-requires c = omega (arith, c.requires.there, c.proxy-place.ensures)
