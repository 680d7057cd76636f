-- A request that does not come next gets its reply again.
use Rattle.std.proofs.Common.{◌≡◌, ◌∙◌, ap, sym, subst}
use Rattle.facts.specs.Stretches.{Stretch}
use Rattle.agreed_ledger.specs.Cells.{ColumnView}
use Rattle.model.specs.Records.{Record}
use Rattle.model.specs.ResolverMemory.{ResolverView, course}
use Rattle.state_memory.specs.Answers.{IsAfterAnswer}
use Rattle.state_memory.specs.declared.answer.Answer.{Answer as OfferAnswer}
use Rattle.locked_resolvers.specs.NotedReplies.{IsNotedReply}
use Rattle.locked_resolvers.specs.Resolvers.{LockedResolverView}
use Rattle.locked_resolvers.proofs.Lists.{agree_from_zero}
use Rattle.locked_resolvers.proofs.ServedRequests.{is_repeating, never_judged, offered_again}
use Rattle.locked_resolvers.proofs.locked_resolver.LockedResolver.repeat_or_refuse.Goals as goal

pub unreachable-requires : goal.unreachable-requires
unreachable-requires g c =
    let config = g.N.Naming.cells.config in
    let s = c.self.inside in
    let v : LockedResolverView = record { memory = s.memory; records = s.records.known; column = s.column.rows.known; closed = s.closed } in
    let (from_zero, column_from_zero, own, keeps) = c.self.invariant in
    let p = c.plain.ensures.kept in
    never_judged config v c.args.request c.in-Ok-Judged.field-0-0 c.in-Ok-Judged.field-0 c.plain.result.now keeps
    (λ judge. c.requires.other (ap (λ (r : LockedResolverView). course r.memory c.args.request.plain) (sym c.self.view_is) ∙ judge))
    c.plain.ensures.value c.in-Ok-Judged.field-0-is c.in-Ok-Judged.ensures.answer

pub of-requires-clause-resolver : goal.of-requires-clause-resolver
of-requires-clause-resolver g c =
    let config = g.N.Naming.cells.config in
    let s = c.self.inside in
    let v : LockedResolverView = record { memory = s.memory; records = s.records.known; column = s.column.rows.known; closed = s.closed } in
    let (from_zero, column_from_zero, own, keeps) = c.self.invariant in
    let p = c.plain.ensures.kept in
    let agree = agree_from_zero s.records c.records.result.now c.args.request.records c.agree.ensures from_zero c.records.ensures.value in
    let repeating = is_repeating config v c.args.request p c.in-Ok-Again.reply c.in-Ok-Again.field-0 c.plain.result.now keeps agree c.plain.ensures.value c.in-Ok-Again.field-0-is c.in-Ok-Again.ensures.answer in
    let copied = c.in-Ok.ensures in
    let taken = c.into_records.ensures.value in
    ap (λ (t : ColumnView). t.resolver) copied ∙ own ∙ repeating.own

pub of-requires-clause-is : goal.of-requires-clause-is
of-requires-clause-is g c =
    let config = g.N.Naming.cells.config in
    let s = c.self.inside in
    let v : LockedResolverView = record { memory = s.memory; records = s.records.known; column = s.column.rows.known; closed = s.closed } in
    let (from_zero, column_from_zero, own, keeps) = c.self.invariant in
    let p = c.plain.ensures.kept in
    let agree = agree_from_zero s.records c.records.result.now c.args.request.records c.agree.ensures from_zero c.records.ensures.value in
    let repeating = is_repeating config v c.args.request p c.in-Ok-Again.reply c.in-Ok-Again.field-0 c.plain.result.now keeps agree c.plain.ensures.value c.in-Ok-Again.field-0-is c.in-Ok-Again.ensures.answer in
    let copied = c.in-Ok.ensures in
    let taken = c.into_records.ensures.value in
    subst (λ (t : Stretch Record). IsNotedReply config (record { reply = c.in-Ok-Again.reply; records = t.known; column = c.in-Ok.column.rows.known })) (sym taken)
    (subst (λ (t : ColumnView). IsNotedReply config (record { reply = c.in-Ok-Again.reply; records = c.args.request.records; column = t.rows.known })) (sym copied) repeating.noted)

pub returns-clause-offered : goal.returns-clause-offered
returns-clause-offered g c =
    let config = g.N.Naming.cells.config in
    let s = c.self.inside in
    let v : LockedResolverView = record { memory = s.memory; records = s.records.known; column = s.column.rows.known; closed = s.closed } in
    let (from_zero, column_from_zero, own, keeps) = c.self.invariant in
    let p = c.plain.ensures.kept in
    let agree = agree_from_zero s.records c.records.result.now c.args.request.records c.agree.ensures from_zero c.records.ensures.value in
    let repeating = is_repeating config v c.args.request p c.in-Ok-Again.reply c.in-Ok-Again.field-0 c.plain.result.now keeps agree c.plain.ensures.value c.in-Ok-Again.field-0-is c.in-Ok-Again.ensures.answer in
    let copied = c.in-Ok.ensures in
    let taken = c.into_records.ensures.value in
    let open_now = ap (λ (r : LockedResolverView). r.closed) c.self.view_is ∙ c.requires.open in
    let memory : c.offer.new.self ≡ s.memory = subst (λ (a : OfferAnswer). IsAfterAnswer s.memory c.plain.result.now c.offer.new.self a) c.in-Ok-Again.field-0-is c.in-Ok-Again.ensures.after in
    offered_again config v c.args.self.now c.args.request p c.in-Ok-Again.reply _ c.of.result c.self.view_is open_now keeps repeating
    (ap (λ (m : ResolverView). (record { memory = m; records = s.records.known; column = s.column.rows.known; closed = s.closed })) memory)
    (c.of.ensures ∙ ap (λ (t : Stretch Record). (record { reply = c.in-Ok-Again.reply; records = t.known; column = c.in-Ok.column.rows.known })) taken
    ∙ ap (λ (t : ColumnView). (record { reply = c.in-Ok-Again.reply; records = c.args.request.records; column = t.rows.known })) copied)
