-- The replies below the version end at the place, so if the reply there has another version, none has it.
use Rattle.std.proofs.Common.{rules, nat_lt, sym, ap, ◌∙◌, arith}
use Rattle.std.proofs.lemmas.List.Sorted.{IsPartitionPoint-from_clause, IsPartitionedBy-ltb}
use Rattle.std.proofs.lemmas.List.{get_or_default}
use Rattle.model.specs.declared.reply.Reply.{Reply}
use Rattle.state_memory.proofs.ReplyPlaces.{version_of, found_at, none_there}
use Rattle.state_memory.proofs.RowLaws.{never_falls}
use Rattle.state_memory.proofs.proxy_memory.ProxyMemory.reply_at.Goals as goal

pub returns-then-reply-version : goal.returns-then-reply-version
returns-then-reply-version c =
    found_at 0 c.args.version c.args.self.now.replies.items c.partition_point-place.result c.in-Some.reply.now c.requires c.in-Some.ensures.item.3.0 c.in-Some.ensures.item.1 c.if-reply-version.true

pub returns-else-reply-version : goal.returns-else-reply-version
returns-else-reply-version c =
    let parted = IsPartitionedBy-ltb version_of c.args.self.now.replies.items c.args.version (never_falls version_of 0 c.args.self.now.replies.items c.requires) in
    let point = IsPartitionPoint-from_clause (λ (reply : Reply). nat_lt reply.version c.args.version) _ _ c.partition_point-place.ensures.partitioned parted (λ a r q k. search rules) in
    none_there c.args.version c.partition_point-place.result c.args.self.now.replies.items c.requires point (λ reply within is at. c.if-reply-version.false (ap version_of (c.in-Some.ensures.item.1 ∙ get_or_default c.args.self.now.replies.items c.partition_point-place.result c.in-Some.reply.now reply within ∙ sym is) ∙ at))

pub returns-in_default : goal.returns-in_default
returns-in_default c =
    let parted = IsPartitionedBy-ltb version_of c.args.self.now.replies.items c.args.version (never_falls version_of 0 c.args.self.now.replies.items c.requires) in
    let point = IsPartitionPoint-from_clause (λ (reply : Reply). nat_lt reply.version c.args.version) _ _ c.partition_point-place.ensures.partitioned parted (λ a r q k. search rules) in
    none_there c.args.version c.partition_point-place.result c.args.self.now.replies.items c.requires point (λ reply within is at. omega (arith, within, c.in_default.ensures.item.3))
