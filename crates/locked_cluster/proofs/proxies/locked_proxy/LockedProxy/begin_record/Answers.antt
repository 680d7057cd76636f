-- The record is refused, or begun.
use Rattle.std.proofs.Common.{◌≡◌, ◌∙◌, sym, ap, subst, ℕ, List, length, replicate, None, arith, rules}
use Rattle.std.specs.Prelude.{Result, Err, IfErr}
use Rattle.facts.specs.Stretches.{Agree, Stretch}
use Rattle.model.specs.Configs.{Config}
use Rattle.model.specs.Records.{Record}
use Rattle.model.specs.Requests.{Request}
use Rattle.model.specs.Finishing.{ProxyView, HasBegun}
use Rattle.agreed_ledger.specs.Sequencing.{TicketView}
use Rattle.proxy_state.specs.Beginning.{refusal_fault}
use Rattle.locked_cluster.specs.Begun.{AreRequestsFor, BegunView, IsBegun, requests_to_all, with_records}
use Rattle.locked_cluster.specs.Proxies.{LockedProxyView, IsLockedProxy, IsBeginRefusalOf, BeginsTicket, MayFollow}
use Rattle.locked_resolvers.specs.declared.refusal.Refusal.{Refusal}
use Rattle.locked_resolvers.specs.declared.refusal.Refusal.TheVariants as refusals
use Rattle.locked_cluster.proofs.ProxyRows.{agree_from_zero, from_zero}
use Rattle.locked_cluster.proofs.ProxyBegins.{Continues, all_count, are_requests_for, begins_ticket, begun_keeps, is_begun, may_begin, not_mine, out_of_order}
use Rattle.locked_cluster.proofs.ProxyRefusals.{no_begin_fault}
use Rattle.proxy_state.proofs.RefusedCalls.{wants_memory}
use Rattle.locked_cluster.proofs.proxies.locked_proxy.LockedProxy.begin_record.Goals as goal

pub returns-then-proxy-self-clause-refused : goal.returns-then-proxy-self-clause-refused
returns-then-proxy-self-clause-refused g c =
    let s = c.self.inside in
    let v : LockedProxyView = record { proxy = s.proxy; records = s.records.known; columns = s.columns } in
    subst (λ (u : LockedProxyView). IsBeginRefusalOf u.proxy c.args.rec.now refusals.NotMine) c.self.view_is (not_mine v c.args.rec.now c.proxy.result s.number c.proxy.ensures c.self.invariant.0 c.if-proxy-self.true)

pub returns-then-own_previous-expected-clause-refused : goal.returns-then-own_previous-expected-clause-refused
returns-then-own_previous-expected-clause-refused g c =
    let s = c.self.inside in
    let v : LockedProxyView = record { proxy = s.proxy; records = s.records.known; columns = s.columns } in
    let rec = c.args.rec.now in
    let mine : rec.proxy ≡ v.proxy.number = sym c.proxy.ensures ∙ c.if-proxy-self.false ∙ c.self.invariant.0 in
    subst (λ (u : LockedProxyView). IsBeginRefusalOf u.proxy rec (refusals.OutOfOrder c.last_begun-expected.result)) c.self.view_is
    (out_of_order v rec c.own_previous.result c.last_begun-expected.result mine c.own_previous.ensures c.last_begun-expected.ensures c.if-own_previous-expected.true)

pub returns-in_err-proxy_records-clause-refused : goal.returns-in_err-proxy_records-clause-refused
returns-in_err-proxy_records-clause-refused g c =
    let config = g.N.Naming.cells.config in
    let s = c.self.inside in
    let v : LockedProxyView = record { proxy = s.proxy; records = s.records.known; columns = s.columns } in
    let t : TicketView = record { row = c.args.row; records = c.args.records.now.known } in
    let rec = c.args.rec.now in
    let mine : rec.proxy ≡ v.proxy.number = sym c.proxy.ensures ∙ c.if-proxy-self.false ∙ c.self.invariant.0 in
    let follows : rec.own_previous ≡ v.proxy.last_begun = sym c.own_previous.ensures ∙ c.if-own_previous-expected.false ∙ c.last_begun-expected.ensures in
    let out : c.from_residual.result ≡ Err refusals.OutOfMemory = search rules in
    let may : MayFollow c.args.self.now.proxy rec = subst (λ (u : LockedProxyView). MayFollow u.proxy rec) c.self.view_is (record { own = mine; follows = follows }) in
    subst (λ (r : Result BegunView Refusal). IfErr r (IsBeginRefusalOf c.args.self.now.proxy rec)) (sym out) may

pub begin-requires : goal.begin-requires
begin-requires g c =
    let config = g.N.Naming.cells.config in
    let s = c.self.inside in
    let v : LockedProxyView = record { proxy = s.proxy; records = s.records.known; columns = s.columns } in
    let t : TicketView = record { row = c.args.row; records = c.args.records.now.known } in
    let rec = c.args.rec.now in
    let mine : rec.proxy ≡ v.proxy.number = sym c.proxy.ensures ∙ c.if-proxy-self.false ∙ c.self.invariant.0 in
    let follows : rec.own_previous ≡ v.proxy.last_begun = sym c.own_previous.ensures ∙ c.if-own_previous-expected.false ∙ c.last_begun-expected.ensures in
    let agree : Agree 0 v.records 0 t.records = agree_from_zero s.records c.args.records.now t.records c.self.invariant.1 (from_zero c.args.records.now c.requires.first) c.agree.ensures in
    let is : Continues config v t rec = record { keeps = c.self.invariant.2; ticket = c.requires.ticket; there = c.requires.there; follows = follows; agree = agree } in
    may_begin config v t rec is

pub unreachable-requires : goal.unreachable-requires
unreachable-requires g c =
    let s = c.self.inside in
    let rec = c.args.rec.now in
    let mine : rec.proxy ≡ s.proxy.number = sym c.proxy.ensures ∙ c.if-proxy-self.false ∙ c.self.invariant.0 in
    let follows : rec.own_previous ≡ s.proxy.last_begun = sym c.own_previous.ensures ∙ c.if-own_previous-expected.false ∙ c.last_begun-expected.ensures in
    let none : refusal_fault c.in-Err.refusal ≡ None = c.in-Err.ensures.refused ∙ no_begin_fault s.proxy rec mine follows in
    c.in_default.not-OutOfMemory (wants_memory c.in-Err.refusal none)

pub invariant_of-self : goal.invariant_of-self
invariant_of-self g c =
    let s = c.self.inside in
    subst (λ (p : ProxyView). (s.number ≡ p.number) × (s.records.first ≡ 0) × IsLockedProxy g.N.Naming.cells.config (record { proxy = p; records = s.records.known; columns = s.columns })) (sym c.in-Err.ensures.err) c.self.invariant

pub returns-in-Err-clause-refused : goal.returns-in-Err-clause-refused
returns-in-Err-clause-refused g c =
    let config = g.N.Naming.cells.config in
    let s = c.self.inside in
    let v : LockedProxyView = record { proxy = s.proxy; records = s.records.known; columns = s.columns } in
    let t : TicketView = record { row = c.args.row; records = c.args.records.now.known } in
    let rec = c.args.rec.now in
    let mine : rec.proxy ≡ v.proxy.number = sym c.proxy.ensures ∙ c.if-proxy-self.false ∙ c.self.invariant.0 in
    let follows : rec.own_previous ≡ v.proxy.last_begun = sym c.own_previous.ensures ∙ c.if-own_previous-expected.false ∙ c.last_begun-expected.ensures in
    subst (λ (u : LockedProxyView). MayFollow u.proxy rec) c.self.view_is (record { own = mine; follows = follows })

pub returns-in-Err-clause-err : goal.returns-in-Err-clause-err
returns-in-Err-clause-err g c =
    let s = c.self.inside in
    let same = c.in-Err.ensures.err in
    ap (λ (p : ProxyView). record { proxy = p; records = s.records.known; columns = s.columns }) same ∙ c.self.view_is

pub requests_with_records-requests-requires-clause-are : goal.requests_with_records-requests-requires-clause-are
requests_with_records-requests-requires-clause-are g c =
    let config = g.N.Naming.cells.config in
    let s = c.self.inside in
    let v : LockedProxyView = record { proxy = s.proxy; records = s.records.known; columns = s.columns } in
    let t : TicketView = record { row = c.args.row; records = c.args.records.now.known } in
    let rec = c.args.rec.now in
    let mine : rec.proxy ≡ v.proxy.number = sym c.proxy.ensures ∙ c.if-proxy-self.false ∙ c.self.invariant.0 in
    let follows : rec.own_previous ≡ v.proxy.last_begun = sym c.own_previous.ensures ∙ c.if-own_previous-expected.false ∙ c.last_begun-expected.ensures in
    let agree : Agree 0 v.records 0 t.records = agree_from_zero s.records c.args.records.now t.records c.self.invariant.1 (from_zero c.args.records.now c.requires.first) c.agree.ensures in
    let is : Continues config v t rec = record { keeps = c.self.invariant.2; ticket = c.requires.ticket; there = c.requires.there; follows = follows; agree = agree } in
    let all : c.from.result.items ≡ requests_to_all config rec v.proxy.version = c.from.ensures ∙ c.in-Ok.ensures.requests ∙ ap (λ (n : Config). requests_to_all n rec v.proxy.version) c.self.invariant.2.config_of in
    subst (AreRequestsFor config t.records) (sym all) (are_requests_for config v t rec is)

pub requests_with_records-requests-requires-clause-copies : goal.requests_with_records-requests-requires-clause-copies
requests_with_records-requests-requires-clause-copies g c =
    let config = g.N.Naming.cells.config in
    let s = c.self.inside in
    let v : LockedProxyView = record { proxy = s.proxy; records = s.records.known; columns = s.columns } in
    let t : TicketView = record { row = c.args.row; records = c.args.records.now.known } in
    let rec = c.args.rec.now in
    let mine : rec.proxy ≡ v.proxy.number = sym c.proxy.ensures ∙ c.if-proxy-self.false ∙ c.self.invariant.0 in
    let follows : rec.own_previous ≡ v.proxy.last_begun = sym c.own_previous.ensures ∙ c.if-own_previous-expected.false ∙ c.last_begun-expected.ensures in
    let all : c.from.result.items ≡ requests_to_all config rec v.proxy.version = c.from.ensures ∙ c.in-Ok.ensures.requests ∙ ap (λ (n : Config). requests_to_all n rec v.proxy.version) c.self.invariant.2.config_of in
    let count : c.resolvers.result ≡ length c.from.result.items = c.resolvers.ensures.value ∙ ap (λ (n : Config). n.resolvers) c.requires.config ∙ sym (ap (λ (qs : List Request). length qs) all ∙ all_count config rec v.proxy.version) in
    c.in_ok-proxy_records.ensures.copies ∙ ap (λ (n : ℕ). replicate n c.args.records.now) count

pub requests_with_records-requests-requires-clause-room : goal.requests_with_records-requests-requires-clause-room
requests_with_records-requests-requires-clause-room g c =
    let config = g.N.Naming.cells.config in
    let s = c.self.inside in
    let v : LockedProxyView = record { proxy = s.proxy; records = s.records.known; columns = s.columns } in
    let t : TicketView = record { row = c.args.row; records = c.args.records.now.known } in
    let rec = c.args.rec.now in
    let mine : rec.proxy ≡ v.proxy.number = sym c.proxy.ensures ∙ c.if-proxy-self.false ∙ c.self.invariant.0 in
    let follows : rec.own_previous ≡ v.proxy.last_begun = sym c.own_previous.ensures ∙ c.if-own_previous-expected.false ∙ c.last_begun-expected.ensures in
    let all : c.from.result.items ≡ requests_to_all config rec v.proxy.version = c.from.ensures ∙ c.in-Ok.ensures.requests ∙ ap (λ (n : Config). requests_to_all n rec v.proxy.version) c.self.invariant.2.config_of in
    let count : c.resolvers.result ≡ length c.from.result.items = c.resolvers.ensures.value ∙ ap (λ (n : Config). n.resolvers) c.requires.config ∙ sym (ap (λ (qs : List Request). length qs) all ∙ all_count config rec v.proxy.version) in
    omega (arith, count, c.in_ok-proxy_records.ensures.room)

pub of-requires-clause-first : goal.of-requires-clause-first
of-requires-clause-first g c = ap (λ (u : Stretch Record). u.first) c.in_ok-proxy_records.ensures.begun ∙ c.requires.first

pub of-requires-clause-is : goal.of-requires-clause-is
of-requires-clause-is g c =
    let config = g.N.Naming.cells.config in
    let s = c.self.inside in
    let v : LockedProxyView = record { proxy = s.proxy; records = s.records.known; columns = s.columns } in
    let t : TicketView = record { row = c.args.row; records = c.args.records.now.known } in
    let rec = c.args.rec.now in
    let mine : rec.proxy ≡ v.proxy.number = sym c.proxy.ensures ∙ c.if-proxy-self.false ∙ c.self.invariant.0 in
    let follows : rec.own_previous ≡ v.proxy.last_begun = sym c.own_previous.ensures ∙ c.if-own_previous-expected.false ∙ c.last_begun-expected.ensures in
    let agree : Agree 0 v.records 0 t.records = agree_from_zero s.records c.args.records.now t.records c.self.invariant.1 (from_zero c.args.records.now c.requires.first) c.agree.ensures in
    let is : Continues config v t rec = record { keeps = c.self.invariant.2; ticket = c.requires.ticket; there = c.requires.there; follows = follows; agree = agree } in
    let all : c.from.result.items ≡ requests_to_all config rec v.proxy.version = c.from.ensures ∙ c.in-Ok.ensures.requests ∙ ap (λ (n : Config). requests_to_all n rec v.proxy.version) c.self.invariant.2.config_of in
    let told : c.in_ok-proxy_records.field-0.begun_records.known ≡ t.records = ap (λ (u : Stretch Record). u.known) c.in_ok-proxy_records.ensures.begun in
    let are : c.requests_with_records-requests.result.items ≡ with_records t.records (requests_to_all config rec v.proxy.version) = c.requests_with_records-requests.ensures ∙ ap (with_records t.records) all in
    subst (λ (rs : List Record). IsBegun config (record { row = c.args.row; records = rs; requests = c.requests_with_records-requests.result.items })) (sym told) (is_begun config v t rec c.requests_with_records-requests.result.items is are)

pub invariant_of-self-2 : goal.invariant_of-self-2
invariant_of-self-2 g c =
    let config = g.N.Naming.cells.config in
    let s = c.self.inside in
    let v : LockedProxyView = record { proxy = s.proxy; records = s.records.known; columns = s.columns } in
    let t : TicketView = record { row = c.args.row; records = c.args.records.now.known } in
    let rec = c.args.rec.now in
    let mine : rec.proxy ≡ v.proxy.number = sym c.proxy.ensures ∙ c.if-proxy-self.false ∙ c.self.invariant.0 in
    let follows : rec.own_previous ≡ v.proxy.last_begun = sym c.own_previous.ensures ∙ c.if-own_previous-expected.false ∙ c.last_begun-expected.ensures in
    let agree : Agree 0 v.records 0 t.records = agree_from_zero s.records c.args.records.now t.records c.self.invariant.1 (from_zero c.args.records.now c.requires.first) c.agree.ensures in
    let is : Continues config v t rec = record { keeps = c.self.invariant.2; ticket = c.requires.ticket; there = c.requires.there; follows = follows; agree = agree } in
    let new = c.begin.new.self in
    let has : HasBegun v.proxy new rec = c.in-Ok.ensures.begun in
    let kept : c.in_ok-proxy_records.field-0.proxy_records.known ≡ t.records = ap (λ (u : Stretch Record). u.known) c.in_ok-proxy_records.ensures.proxy in (
      c.self.invariant.0 ∙ sym has.number,
      ap (λ (u : Stretch Record). u.first) c.in_ok-proxy_records.ensures.proxy ∙ c.requires.first,
      subst (λ (rs : List Record). IsLockedProxy config (record { proxy = new; records = rs; columns = s.columns })) (sym kept) (begun_keeps config v t rec new is (record { own = mine; follows = follows }) has),
    )

pub returns-clause-begun : goal.returns-clause-begun
returns-clause-begun g c =
    let config = g.N.Naming.cells.config in
    let s = c.self.inside in
    let v : LockedProxyView = record { proxy = s.proxy; records = s.records.known; columns = s.columns } in
    let t : TicketView = record { row = c.args.row; records = c.args.records.now.known } in
    let rec = c.args.rec.now in
    let mine : rec.proxy ≡ v.proxy.number = sym c.proxy.ensures ∙ c.if-proxy-self.false ∙ c.self.invariant.0 in
    let follows : rec.own_previous ≡ v.proxy.last_begun = sym c.own_previous.ensures ∙ c.if-own_previous-expected.false ∙ c.last_begun-expected.ensures in
    let agree : Agree 0 v.records 0 t.records = agree_from_zero s.records c.args.records.now t.records c.self.invariant.1 (from_zero c.args.records.now c.requires.first) c.agree.ensures in
    let is : Continues config v t rec = record { keeps = c.self.invariant.2; ticket = c.requires.ticket; there = c.requires.there; follows = follows; agree = agree } in
    let all : c.from.result.items ≡ requests_to_all config rec v.proxy.version = c.from.ensures ∙ c.in-Ok.ensures.requests ∙ ap (λ (n : Config). requests_to_all n rec v.proxy.version) c.self.invariant.2.config_of in
    let new = c.begin.new.self in
    let has : HasBegun v.proxy new rec = c.in-Ok.ensures.begun in
    let kept : c.in_ok-proxy_records.field-0.proxy_records.known ≡ t.records = ap (λ (u : Stretch Record). u.known) c.in_ok-proxy_records.ensures.proxy in
    let told : c.in_ok-proxy_records.field-0.begun_records.known ≡ t.records = ap (λ (u : Stretch Record). u.known) c.in_ok-proxy_records.ensures.begun in
    let are : c.requests_with_records-requests.result.items ≡ with_records t.records (requests_to_all config rec v.proxy.version) = c.requests_with_records-requests.ensures ∙ ap (with_records t.records) all in
    let answer : c.of.result ≡ record { row = t.row; records = t.records; requests = with_records t.records (requests_to_all config rec v.proxy.version) } = c.of.ensures ∙ (λ i. record { row = c.args.row; records = told i; requests = are i }) in
    subst (λ (u : LockedProxyView). BeginsTicket config u t (record { proxy = new; records = c.in_ok-proxy_records.field-0.proxy_records.known; columns = s.columns }) c.of.result) c.self.view_is
    (begins_ticket config v t rec new c.in_ok-proxy_records.field-0.proxy_records.known c.of.result is (record { own = mine; follows = follows }) has kept answer)
