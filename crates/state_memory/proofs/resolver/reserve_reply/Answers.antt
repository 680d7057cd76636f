-- Room for a reply changes nothing that is kept.
use Rattle.std.proofs.Common.{◌<◌, subst}
use Rattle.std.specs.VecDeque.{deque_len, deque_capacity}
use Rattle.state_memory.specs.declared.proxy_memory.ProxyMemory.{ProxyMemory}
use Rattle.state_memory.proofs.KeptLaws.{same_kept, set_there}
use Rattle.state_memory.proofs.resolver.reserve_reply.Goals as goal

pub returns-in_err-reserve-clause-same : goal.returns-in_err-reserve-clause-same
returns-in_err-reserve-clause-same c = same_kept c.args.proxies.now.items c.args.place c.index_mut.result.now c.reserve.new.self c.requires c.index_mut.ensures.value c.reserve.ensures.same

pub returns-clause-same : goal.returns-clause-same
returns-clause-same c = same_kept c.args.proxies.now.items c.args.place c.index_mut.result.now c.reserve.new.self c.requires c.index_mut.ensures.value c.reserve.ensures.same

pub returns-clause-room : goal.returns-clause-room
returns-clause-room c = λ one at.
    let is = set_there c.args.proxies.now.items c.args.place c.reserve.new.self one c.requires at in
    subst (λ (kept : ProxyMemory). deque_len kept.replies < deque_capacity kept.replies) is c.in_ok-reserve.ensures.room
