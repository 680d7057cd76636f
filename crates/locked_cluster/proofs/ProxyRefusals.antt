-- Calls of a proxy that have no fault are refused with `OutOfMemory` alone.
use Rattle.std.proofs.Common.{◌≡◌, refl, sym, ℕ, ◌-◌, ◌<◌, List, length, take, true, nat_eq, None, arith}
use Rattle.std.proofs.lemmas.Bool.{eq-eqb}
use Rattle.model.specs.Records.{Record}
use Rattle.model.specs.Finishing.{ProxyView, Replies}
use Rattle.model.specs.declared.reply.Reply.{Reply}
use Rattle.proxy_state.specs.Beginning.{begin_fault}
use Rattle.proxy_state.specs.Refusals.{put_fault}
use Rattle.proxy_state.proofs.RefusedCalls.{no_next_fault}
use Rattle.locked_resolvers.specs.NotedReplies.{NotedReplyView}
use Rattle.locked_cluster.proofs.CommitReplies.{count_first, first_places, in_places}

-- a record of the proxy that follows the one begun last has no fault
pub no_begin_fault : (v : ProxyView) (rec : Record) → rec.proxy ≡ v.number → rec.own_previous ≡ v.last_begun → begin_fault v rec ≡ None
no_begin_fault v rec mine follows =
    let own : nat_eq rec.proxy v.number ≡ true = eq-eqb rec.proxy v.number mine in
    let order : nat_eq rec.own_previous v.last_begun ≡ true = eq-eqb rec.own_previous v.last_begun follows in
    rw (own, order) refl

-- ---- replies that are put one by one

-- the place of the next reply is empty
pub no_put_fault : (noted : List NotedReplyView) (resolvers k : ℕ) (kept : Replies) (reply : Reply) → kept ≡ first_places noted resolvers k → reply.resolver ≡ k → k < length noted → length noted ≡ resolvers → put_fault kept reply ≡ None
no_put_fault noted resolvers k kept reply kept_is resolver within count =
    no_next_fault kept (in_places (take k noted)) (resolvers - k) k reply kept_is resolver (sym (count_first noted k (omega (arith, within)))) (omega (arith, within, count))
