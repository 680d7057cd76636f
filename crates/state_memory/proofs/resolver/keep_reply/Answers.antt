-- What was noted is of the proxy of the request.
use Rattle.std.proofs.Common.{◌<◌, length, refl, arith}
use Rattle.state_memory.proofs.KeptLaws.{kept_there, noted}
use Rattle.state_memory.proofs.resolver.keep_reply.Goals as goal

pub keep_reply-requires-clause-order : goal.keep_reply-requires-clause-order
keep_reply-requires-clause-order c =
    let there : c.proxy.result < length c.args.proxies.now.items = omega (arith, c.proxy.ensures, c.requires.there) in
    c.requires.order c.proxy.result _ (kept_there c.args.proxies.now.items c.proxy.result c.index_mut.result.now there c.index_mut.ensures.value)

pub returns : goal.returns
returns c =
    let there : c.proxy.result < length c.args.proxies.now.items = omega (arith, c.proxy.ensures, c.requires.there) in
    noted c.args.proxies.now.items c.proxy.result c.args.request.now.proxy c.index_mut.result.now c.keep_reply.new.self c.args.request.now c.args.reply c.proxy.ensures refl there c.index_mut.ensures.value c.keep_reply.ensures
