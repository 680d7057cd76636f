-- The finish is refused, or done.
use Rattle.std.proofs.Common.{◌≡◌, ◌∙◌, sym, ap, subst, Some, None}
use Rattle.facts.specs.Stretches.{Agree, Stretch}
use Rattle.model.specs.Records.{Record}
use Rattle.model.specs.Agreed.{Columns}
use Rattle.model.specs.Finishing.{ProxyView, Replies, HasFinished}
use Rattle.proxy_state.specs.Beginning.{refusal_fault}
use Rattle.proxy_state.specs.Finishing.{finish_fault}
use Rattle.locked_cluster.specs.Ready.{ReadyView, IsReady}
use Rattle.locked_cluster.specs.Answers.{NotedFinishedView, IsNotedFinished}
use Rattle.locked_cluster.specs.Proxies.{LockedProxyView, IsLockedProxy, IsFinishRefusal, FinishesReady}
use Rattle.locked_resolvers.specs.declared.refusal.Refusal.TheVariants as refusals
use Rattle.locked_cluster.proofs.ProxyRows.{agree_from_zero}
use Rattle.locked_cluster.proofs.ProxyFinishes.{IsNext, is_next, no_fault, finished_keeps, is_noted, finishes_ready, none_awaited, other_awaited, awaited_fails}
use Rattle.proxy_state.proofs.RefusedCalls.{wants_memory}
use Rattle.locked_cluster.proofs.proxies.locked_proxy.LockedProxy.finish.Goals as goal

pub returns-in_default-clause-refused : goal.returns-in_default-clause-refused
returns-in_default-clause-refused g c =
    let s = c.self.inside in
    let v : LockedProxyView = record { proxy = s.proxy; records = s.records.known; columns = s.columns } in
    subst (λ (u : LockedProxyView). IsFinishRefusal u c.args.ready (refusals.OutOfTurn None)) c.self.view_is (none_awaited v c.args.ready c.in_default.ensures.first)

pub returns-then-row-clause-refused : goal.returns-then-row-clause-refused
returns-then-row-clause-refused g c =
    let s = c.self.inside in
    let v : LockedProxyView = record { proxy = s.proxy; records = s.records.known; columns = s.columns } in
    let rec = c.in-Some.rec.now in
    subst (λ (u : LockedProxyView). IsFinishRefusal u c.args.ready (refusals.OutOfTurn (Some c.row-row.result))) c.self.view_is
    (other_awaited v c.args.ready rec c.in-Some.ensures.first.0 c.row-row.result c.row.result c.in-Some.ensures.first.1 c.row-row.ensures c.row.ensures.value c.if-row.true)

pub returns-in_default-copy-clause-refused : goal.returns-in_default-copy-clause-refused
returns-in_default-copy-clause-refused g c =
    let s = c.self.inside in
    let v : LockedProxyView = record { proxy = s.proxy; records = s.records.known; columns = s.columns } in
    let rec = c.in-Some.rec.now in
    let row : rec.row ≡ c.args.ready.row = sym c.row-row.ensures ∙ c.if-row.false ∙ c.row.ensures.value in
    subst (λ (u : LockedProxyView). IsFinishRefusal u c.args.ready refusals.OutOfMemory) c.self.view_is
    (awaited_fails v c.args.ready rec c.in-Some.ensures.first.0 c.in-Some.ensures.first.1 row)

pub unreachable-requires : goal.unreachable-requires
unreachable-requires g c =
    let config = g.N.Naming.cells.config in
    let s = c.self.inside in
    let x = c.args.ready in
    let v : LockedProxyView = record { proxy = s.proxy; records = s.records.known; columns = s.columns } in
    let rec = c.in-Some.rec.now in
    let rest = c.in-Some.ensures.first.0 in
    let row : rec.row ≡ x.row = sym c.row-row.ensures ∙ c.if-row.false ∙ c.row.ensures.value in
    let agree : Agree 0 v.records 0 x.records = agree_from_zero s.records c.records.result.now x.records c.self.invariant.1 c.records.ensures.value c.agree.ensures in
    let is : IsNext v x rec rest = is_next config v x rec rest c.self.invariant.2 c.row.ensures.kept c.in-Some.ensures.first.1 row agree in
    let none : refusal_fault c.in-Err.refusal ≡ None = c.in-Err.ensures.refused ∙ ap (finish_fault v.proxy) c.into_parts-replies.ensures.replies ∙ no_fault v x rec rest is in
    c.in_default-refusal.not-OutOfMemory (wants_memory c.in-Err.refusal none)

pub of-ready-requires-clause-first : goal.of-ready-requires-clause-first
of-ready-requires-clause-first g c = ap (λ (t : Stretch Record). t.first) c.into_parts-replies.ensures.records

pub of-ready-requires-clause-is : goal.of-ready-requires-clause-is
of-ready-requires-clause-is g c =
    let x = c.args.ready in
    let row : c.row-row.result ≡ x.row = c.if-row.false ∙ c.row.ensures.value in
    let replies : c.in-Err.replies ≡ x.replies = c.in-Err.ensures.back ∙ c.into_parts-replies.ensures.replies in
    let records : c.into_parts-replies.result.1.known ≡ x.records = ap (λ (t : Stretch Record). t.known) c.into_parts-replies.ensures.records in
    let columns : c.into_parts-replies.result.2 ≡ x.columns = c.into_parts-replies.ensures.columns in
    let back : x ≡ record { row = c.row-row.result; replies = c.in-Err.replies; records = c.into_parts-replies.result.1.known; columns = c.into_parts-replies.result.2 } = sym (λ i. record { row = row i; replies = replies i; records = records i; columns = columns i }) in
    subst (λ (y : ReadyView). IsReady g.N.Naming.cells.config y) back c.row.ensures.kept

pub invariant_of-self : goal.invariant_of-self
invariant_of-self g c =
    let s = c.self.inside in
    subst (λ (p : ProxyView). (s.number ≡ p.number) × (s.records.first ≡ 0) × IsLockedProxy g.N.Naming.cells.config (record { proxy = p; records = s.records.known; columns = s.columns })) (sym c.in-Err.ensures.err) c.self.invariant

pub returns-in-Err-clause-refused : goal.returns-in-Err-clause-refused
returns-in-Err-clause-refused g c =
    let s = c.self.inside in
    let v : LockedProxyView = record { proxy = s.proxy; records = s.records.known; columns = s.columns } in
    let rec = c.in-Some.rec.now in
    let row : rec.row ≡ c.args.ready.row = sym c.row-row.ensures ∙ c.if-row.false ∙ c.row.ensures.value in
    subst (λ (u : LockedProxyView). IsFinishRefusal u c.args.ready refusals.OutOfMemory) c.self.view_is
    (awaited_fails v c.args.ready rec c.in-Some.ensures.first.0 c.in-Some.ensures.first.1 row)

pub returns-in-Err-clause-back : goal.returns-in-Err-clause-back
returns-in-Err-clause-back g c =
    let x = c.args.ready in
    let row : c.row-row.result ≡ x.row = c.if-row.false ∙ c.row.ensures.value in
    let replies : c.in-Err.replies ≡ x.replies = c.in-Err.ensures.back ∙ c.into_parts-replies.ensures.replies in
    let records : c.into_parts-replies.result.1.known ≡ x.records = ap (λ (t : Stretch Record). t.known) c.into_parts-replies.ensures.records in
    let columns : c.into_parts-replies.result.2 ≡ x.columns = c.into_parts-replies.ensures.columns in
    let same : (record { row = c.row-row.result; replies = c.in-Err.replies; records = c.into_parts-replies.result.1.known; columns = c.into_parts-replies.result.2 }) ≡ x = λ i. record { row = row i; replies = replies i; records = records i; columns = columns i } in
    c.of-ready.ensures ∙ same

pub returns-in-Err-clause-err : goal.returns-in-Err-clause-err
returns-in-Err-clause-err g c =
    let s = c.self.inside in
    let same = c.in-Err.ensures.err in
    ap (λ (p : ProxyView). record { proxy = p; records = s.records.known; columns = s.columns }) same ∙ c.self.view_is

pub of-requires-clause-first : goal.of-requires-clause-first
of-requires-clause-first g c = ap (λ (t : Stretch Record). t.first) c.into_parts-replies.ensures.records

pub of-requires-clause-is : goal.of-requires-clause-is
of-requires-clause-is g c =
    let config = g.N.Naming.cells.config in
    let s = c.self.inside in
    let x = c.args.ready in
    let v : LockedProxyView = record { proxy = s.proxy; records = s.records.known; columns = s.columns } in
    let rec = c.in-Some.rec.now in
    let rest = c.in-Some.ensures.first.0 in
    let new = c.finish.new.self in
    let finished = c.in-Ok-finish.finished in
    let row : rec.row ≡ x.row = sym c.row-row.ensures ∙ c.if-row.false ∙ c.row.ensures.value in
    let agree : Agree 0 v.records 0 x.records = agree_from_zero s.records c.records.result.now x.records c.self.invariant.1 c.records.ensures.value c.agree.ensures in
    let is : IsNext v x rec rest = is_next config v x rec rest c.self.invariant.2 c.row.ensures.kept c.in-Some.ensures.first.1 row agree in
    let has : HasFinished v.proxy new x.replies finished = subst (λ (rs : Replies). HasFinished v.proxy new rs finished) c.into_parts-replies.ensures.replies c.in-Ok-finish.ensures.finished in
    let records : c.into_parts-replies.result.1.known ≡ x.records = ap (λ (t : Stretch Record). t.known) c.into_parts-replies.ensures.records in
    let columns : c.in-Ok.noted ≡ x.columns = c.in-Ok.ensures ∙ c.columns.ensures in
    let back : (record { finished = finished; records = x.records; columns = x.columns }) ≡ record { finished = finished; records = c.into_parts-replies.result.1.known; columns = c.in-Ok.noted } = sym (λ i. record { finished = finished; records = records i; columns = columns i }) in
    subst (λ (n : NotedFinishedView). IsNotedFinished config n) back (is_noted config v x rec rest new finished c.self.invariant.2.config_of is has)

pub invariant_of-self-2 : goal.invariant_of-self-2
invariant_of-self-2 g c =
    let config = g.N.Naming.cells.config in
    let s = c.self.inside in
    let x = c.args.ready in
    let v : LockedProxyView = record { proxy = s.proxy; records = s.records.known; columns = s.columns } in
    let rec = c.in-Some.rec.now in
    let rest = c.in-Some.ensures.first.0 in
    let new = c.finish.new.self in
    let finished = c.in-Ok-finish.finished in
    let row : rec.row ≡ x.row = sym c.row-row.ensures ∙ c.if-row.false ∙ c.row.ensures.value in
    let agree : Agree 0 v.records 0 x.records = agree_from_zero s.records c.records.result.now x.records c.self.invariant.1 c.records.ensures.value c.agree.ensures in
    let is : IsNext v x rec rest = is_next config v x rec rest c.self.invariant.2 c.row.ensures.kept c.in-Some.ensures.first.1 row agree in
    let has : HasFinished v.proxy new x.replies finished = subst (λ (rs : Replies). HasFinished v.proxy new rs finished) c.into_parts-replies.ensures.replies c.in-Ok-finish.ensures.finished in
    let columns : c.into_parts-replies.result.2 ≡ x.columns = c.into_parts-replies.ensures.columns in (
      c.self.invariant.0 ∙ ap (λ (p : ProxyView). p.number) (sym has.after),
      c.self.invariant.1,
      subst (λ (cs : Columns). IsLockedProxy config (record { proxy = new; records = s.records.known; columns = cs })) (sym columns) (finished_keeps config v x rec rest new finished c.self.invariant.2.config_of is has),
    )

pub returns-clause-finished : goal.returns-clause-finished
returns-clause-finished g c =
    let config = g.N.Naming.cells.config in
    let s = c.self.inside in
    let x = c.args.ready in
    let v : LockedProxyView = record { proxy = s.proxy; records = s.records.known; columns = s.columns } in
    let rec = c.in-Some.rec.now in
    let rest = c.in-Some.ensures.first.0 in
    let new = c.finish.new.self in
    let finished = c.in-Ok-finish.finished in
    let row : rec.row ≡ x.row = sym c.row-row.ensures ∙ c.if-row.false ∙ c.row.ensures.value in
    let agree : Agree 0 v.records 0 x.records = agree_from_zero s.records c.records.result.now x.records c.self.invariant.1 c.records.ensures.value c.agree.ensures in
    let is : IsNext v x rec rest = is_next config v x rec rest c.self.invariant.2 c.row.ensures.kept c.in-Some.ensures.first.1 row agree in
    let has : HasFinished v.proxy new x.replies finished = subst (λ (rs : Replies). HasFinished v.proxy new rs finished) c.into_parts-replies.ensures.replies c.in-Ok-finish.ensures.finished in
    let records : c.into_parts-replies.result.1.known ≡ x.records = ap (λ (t : Stretch Record). t.known) c.into_parts-replies.ensures.records in
    let noted : c.in-Ok.noted ≡ x.columns = c.in-Ok.ensures ∙ c.columns.ensures in
    let columns : c.into_parts-replies.result.2 ≡ x.columns = c.into_parts-replies.ensures.columns in
    let answer : c.of.result ≡ record { finished = finished; records = x.records; columns = x.columns } = c.of.ensures ∙ (λ i. record { finished = finished; records = records i; columns = noted i }) in
    subst (λ (n : NotedFinishedView). FinishesReady c.args.self.now x (record { proxy = new; records = s.records.known; columns = c.into_parts-replies.result.2 }) n) (sym answer)
    (subst (λ (cs : Columns). FinishesReady c.args.self.now x (record { proxy = new; records = s.records.known; columns = cs }) (record { finished = finished; records = x.records; columns = x.columns })) (sym columns)
    (subst (λ (u : LockedProxyView). FinishesReady u x (record { proxy = new; records = s.records.known; columns = x.columns }) (record { finished = finished; records = x.records; columns = x.columns })) c.self.view_is
    (finishes_ready v x rec rest new finished is has)))
