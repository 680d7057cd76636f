-- A request that comes next is judged.
use Rattle.std.proofs.Common.{◌≡◌, ◌∙◌, ap, sym, subst, refl, ℕ, Option}
use Rattle.std.specs.Prelude.{Ok}
use Rattle.facts.specs.Stretches.{Stretch}
use Rattle.model.specs.Records.{Record}
use Rattle.model.specs.ResolverMemory.{Judge, course}
use Rattle.locked_resolvers.specs.NotedReplies.{IsNotedReply}
use Rattle.agreed_ledger.specs.Cells.{NotedVerdicts}
use Rattle.locked_resolvers.specs.Refusals.{of_unset}
use Rattle.locked_resolvers.specs.Resolvers.{IsLockedResolver, IsOfferRefusal, LockedResolverView, TellsTaken}
use Rattle.locked_resolvers.specs.declared.refusal.Refusal.{Refusal}
use Rattle.locked_resolvers.proofs.Lists.{agree_from_zero}
use Rattle.locked_resolvers.proofs.ServedRequests.{comes_next, has_room, is_judging, late_refusal, offered_next, served_next, tells_next}
use Rattle.locked_resolvers.proofs.locked_resolver.LockedResolver.judge.Goals as goal

pub returns-in_default-clause-refused : goal.returns-in_default-clause-refused
returns-in_default-clause-refused g c =
    subst (λ (r : Refusal). IsOfferRefusal c.args.self.now c.args.request.plain r) (sym c.by.ensures.refusal)
    (served_next c.args.self.now c.args.request.plain c.requires.open c.requires.next)

pub judge_into_cell-requires-clause-room : goal.judge_into_cell-requires-clause-room
judge_into_cell-requires-clause-room g c =
    let config = g.N.Naming.cells.config in
    let s = c.self.inside in
    let v : LockedResolverView = record { memory = s.memory; records = s.records.known; column = s.column.rows.known; closed = s.closed } in
    let (from_zero, column_from_zero, own, keeps) = c.self.invariant in
    let p = c.records.ensures.kept in
    let records = c.in-Ok.ensures ∙ c.records.ensures.value in
    let agree = agree_from_zero s.records c.in-Ok.records c.args.request.records c.agree.ensures from_zero records in
    let judge : course v.memory c.args.request.plain ≡ Ok Judge = ap (λ (r : LockedResolverView). course r.memory c.args.request.plain) c.self.view_is ∙ c.requires.next in
    has_room g.N.Naming.cells v c.args.request p.rec s.column c.in-Ok.records (comes_next config v c.args.request p keeps agree judge) keeps c.rows-rows.ensures.columns records c.end-end.ensures.within column_from_zero refl own

pub of-requires-clause-resolver : goal.of-requires-clause-resolver
of-requires-clause-resolver g c =
    let config = g.N.Naming.cells.config in
    let s = c.self.inside in
    let v : LockedResolverView = record { memory = s.memory; records = s.records.known; column = s.column.rows.known; closed = s.closed } in
    let (from_zero, column_from_zero, own, keeps) = c.self.invariant in
    let p = c.records.ensures.kept in
    let records = c.in-Ok.ensures ∙ c.records.ensures.value in
    let agree = agree_from_zero s.records c.in-Ok.records c.args.request.records c.agree.ensures from_zero records in
    let judge : course v.memory c.args.request.plain ≡ Ok Judge = ap (λ (r : LockedResolverView). course r.memory c.args.request.plain) c.self.view_is ∙ c.requires.next in
    let done = c.in-Ok-judge_into_cell.ensures in
    let one = c.in-Ok-judge_into_cell.field-0 in
    let judging = is_judging config v c.args.request p c.judge_into_cell.new.memory one.reply s.column one.column one.noted c.plain.result.now keeps agree judge c.plain.ensures.value column_from_zero refl own done.reply done.gains done.column done.noted done.number done.proxies done.window in
    judging.noted_own

pub of-requires-clause-is : goal.of-requires-clause-is
of-requires-clause-is g c =
    let config = g.N.Naming.cells.config in
    let s = c.self.inside in
    let v : LockedResolverView = record { memory = s.memory; records = s.records.known; column = s.column.rows.known; closed = s.closed } in
    let (from_zero, column_from_zero, own, keeps) = c.self.invariant in
    let p = c.records.ensures.kept in
    let records = c.in-Ok.ensures ∙ c.records.ensures.value in
    let agree = agree_from_zero s.records c.in-Ok.records c.args.request.records c.agree.ensures from_zero records in
    let judge : course v.memory c.args.request.plain ≡ Ok Judge = ap (λ (r : LockedResolverView). course r.memory c.args.request.plain) c.self.view_is ∙ c.requires.next in
    let done = c.in-Ok-judge_into_cell.ensures in
    let one = c.in-Ok-judge_into_cell.field-0 in
    let judging = is_judging config v c.args.request p c.judge_into_cell.new.memory one.reply s.column one.column one.noted c.plain.result.now keeps agree judge c.plain.ensures.value column_from_zero refl own done.reply done.gains done.column done.noted done.number done.proxies done.window in
    subst (λ (t : Stretch Record). IsNotedReply config (record { reply = one.reply; records = t.known; column = one.noted.rows.known })) (sym records) judging.noted

pub invariant_of-self : goal.invariant_of-self
invariant_of-self g c =
    let config = g.N.Naming.cells.config in
    let s = c.self.inside in
    let v : LockedResolverView = record { memory = s.memory; records = s.records.known; column = s.column.rows.known; closed = s.closed } in
    let (from_zero, column_from_zero, own, keeps) = c.self.invariant in
    let p = c.records.ensures.kept in
    let records = c.in-Ok.ensures ∙ c.records.ensures.value in
    let agree = agree_from_zero s.records c.in-Ok.records c.args.request.records c.agree.ensures from_zero records in
    let judge : course v.memory c.args.request.plain ≡ Ok Judge = ap (λ (r : LockedResolverView). course r.memory c.args.request.plain) c.self.view_is ∙ c.requires.next in
    let done = c.in-Ok-judge_into_cell.ensures in
    let one = c.in-Ok-judge_into_cell.field-0 in
    let judging = is_judging config v c.args.request p c.judge_into_cell.new.memory one.reply s.column one.column one.noted c.plain.result.now keeps agree judge c.plain.ensures.value column_from_zero refl own done.reply done.gains done.column done.noted done.number done.proxies done.window in
    let taken = c.into_records.ensures.value in (
      ap (λ (t : Stretch Record). t.first) taken,
      judging.first,
      judging.own,
      subst (λ (t : Stretch Record). IsLockedResolver config (record { memory = c.judge_into_cell.new.memory; records = t.known; column = one.column.rows.known; closed = s.closed })) (sym taken) judging.kept,
    )

pub returns-in-Ok-judge_into_cell-clause-offered : goal.returns-in-Ok-judge_into_cell-clause-offered
returns-in-Ok-judge_into_cell-clause-offered g c =
    let config = g.N.Naming.cells.config in
    let s = c.self.inside in
    let v : LockedResolverView = record { memory = s.memory; records = s.records.known; column = s.column.rows.known; closed = s.closed } in
    let (from_zero, column_from_zero, own, keeps) = c.self.invariant in
    let p = c.records.ensures.kept in
    let records = c.in-Ok.ensures ∙ c.records.ensures.value in
    let agree = agree_from_zero s.records c.in-Ok.records c.args.request.records c.agree.ensures from_zero records in
    let judge : course v.memory c.args.request.plain ≡ Ok Judge = ap (λ (r : LockedResolverView). course r.memory c.args.request.plain) c.self.view_is ∙ c.requires.next in
    let done = c.in-Ok-judge_into_cell.ensures in
    let one = c.in-Ok-judge_into_cell.field-0 in
    let judging = is_judging config v c.args.request p c.judge_into_cell.new.memory one.reply s.column one.column one.noted c.plain.result.now keeps agree judge c.plain.ensures.value column_from_zero refl own done.reply done.gains done.column done.noted done.number done.proxies done.window in
    let open_now = ap (λ (r : LockedResolverView). r.closed) c.self.view_is ∙ c.requires.open in
    offered_next config v c.args.self.now c.args.request p c.judge_into_cell.new.memory one.reply one.column one.noted _ c.of.result c.self.view_is open_now keeps judge judging
    (ap (λ (t : Stretch Record). (record { memory = c.judge_into_cell.new.memory; records = t.known; column = one.column.rows.known; closed = s.closed })) c.into_records.ensures.value)
    (c.of.ensures ∙ ap (λ (t : Stretch Record). (record { reply = one.reply; records = t.known; column = one.noted.rows.known })) records)

pub returns-after-matches-clause-refused : goal.returns-after-matches-clause-refused
returns-after-matches-clause-refused g c =
    subst (λ (r : Refusal). IsOfferRefusal c.args.self.now c.args.request.plain r) (sym c.unset-refused.ensures.refusal)
    (late_refusal c.args.self.now c.args.request.plain c.in-Err.unset c.requires.open c.requires.next)

pub returns-after-matches-clause-taken : goal.returns-after-matches-clause-taken
returns-after-matches-clause-taken g c =
    let config = g.N.Naming.cells.config in
    let s = c.self.inside in
    let v : LockedResolverView = record { memory = s.memory; records = s.records.known; column = s.column.rows.known; closed = s.closed } in
    let (from_zero, column_from_zero, own, keeps) = c.self.invariant in
    let p = c.records.ensures.kept in
    let records = c.in-Ok.ensures ∙ c.records.ensures.value in
    let agree = agree_from_zero s.records c.in-Ok.records c.args.request.records c.agree.ensures from_zero records in
    let judge : course v.memory c.args.request.plain ≡ Ok Judge = ap (λ (r : LockedResolverView). course r.memory c.args.request.plain) c.self.view_is ∙ c.requires.next in
    let told = tells_next config v c.args.request p.rec s.column c.in-Err.unset (comes_next config v c.args.request p keeps agree judge) keeps column_from_zero refl own c.in-Err.ensures.taken in
    subst (λ (r : ℕ). TellsTaken c.args.request.plain.row r c.unset-refused.result.refusal c.unset-refused.result.taken) (ap (λ (r : LockedResolverView). r.memory.number) c.self.view_is)
    (subst (λ (refusal : Refusal). TellsTaken c.args.request.plain.row v.memory.number refusal c.unset-refused.result.taken) (sym c.unset-refused.ensures.refusal)
    (subst (λ (taken : Option NotedVerdicts). TellsTaken c.args.request.plain.row v.memory.number (of_unset c.in-Err.unset) taken) (sym c.unset-refused.ensures.taken) told))
