-- The requests are of one record, and the replies are those of all resolvers.
use Rattle.std.proofs.Common.{refl, sym, ap, subst, ℕ, inl, inr, List}
use Rattle.facts.specs.Stretches.{Stretch}
use Rattle.model.specs.Records.{Record, IsHistory}
use Rattle.locked_resolvers.specs.Requests.{RequestView}
use Rattle.locked_resolvers.specs.NotedReplies.{NotedReplyView}
use Rattle.locked_cluster.specs.Ready.{AreRepliesOfAll}
use Rattle.locked_resolvers.specs.Asking.{AreOfOneRecord, AreRepliesInOrder, AreTaken}
use Rattle.locked_cluster.proofs.CommitRequests.{of_one_record, replies_of_all, takes_record}
use Rattle.locked_cluster.proofs.commits.shared_proxy.SharedProxy.resolve_all.Goals as goal

pub ask_all-requires : goal.ask_all-requires
ask_all-requires g c = subst (λ (qs : List RequestView). AreOfOneRecord qs) (sym c.requests.ensures.value) (of_one_record g.N.Naming.cells.config c.args.begun c.requests.ensures.kept)

pub collect_replies-made-requires-clause-history : goal.collect_replies-made-requires-clause-history
collect_replies-made-requires-clause-history g c = subst (λ (rs : List Record). IsHistory g.N.Naming.cells.config rs) (sym (ap (λ (t : Stretch Record). t.known) c.records.ensures.value)) c.records.ensures.kept.history

pub collect_replies-made-requires-clause-replied : goal.collect_replies-made-requires-clause-replied
collect_replies-made-requires-clause-replied g c =
    let config = g.N.Naming.cells.config in
    let answered : AreRepliesInOrder c.args.begun.requests c.in-Ok.replies.items = subst (λ (qs : List RequestView). AreRepliesInOrder qs c.in-Ok.replies.items) c.requests.ensures.value c.in-Ok.ensures.replied in
    subst (λ (rs : List NotedReplyView). AreRepliesOfAll config c.row-row.result rs) (sym c.as_slice.ensures.value)
    (subst (λ (row : ℕ). AreRepliesOfAll config row c.in-Ok.replies.items) (sym c.row-row.ensures.value)
    (replies_of_all config c.args.begun c.in-Ok.replies.items c.requests.ensures.kept answered))

pub returns-in_default-clause-refused : goal.returns-in_default-clause-refused
returns-in_default-clause-refused g c =
    inr (subst (λ (qs : List RequestView). AreTaken (g.A.Asking.takes c.args.asking.now) qs) c.requests.ensures.value c.in-Ok.ensures.taken, inl refl)

pub returns-clause-taken : goal.returns-clause-taken
returns-clause-taken g c =
    let whose = g.A.Asking.takes c.args.asking.now in
    let asked : AreTaken whose c.args.begun.requests = subst (λ (qs : List RequestView). AreTaken whose qs) c.requests.ensures.value c.in-Ok.ensures.taken in
    takes_record g.N.Naming.cells.config c.args.begun whose c.config-config.ensures.kept.config.resolvers.0 c.requests.ensures.kept asked
