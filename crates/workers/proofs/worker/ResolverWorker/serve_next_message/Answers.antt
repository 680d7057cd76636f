-- A message more was taken: a request, which is served, a Close, or the last of a proxy.
use Rattle.std.proofs.Common.{◌≡◌, refl, ap, sym, ◌∙◌, subst, ℕ, ◌+◌, ◌-◌, true, false, arith}
use Rattle.inboxes.specs.Sending.{is_end}
use Rattle.inboxes.specs.MessageViews.{close_view, end_view, request_view}
use Rattle.inboxes.specs.declared.views.MessageKind.TheVariants as kinds
use Rattle.inboxes.specs.declared.views.MessageView.{MessageView}
use Rattle.inboxes.proofs.Sent.{no_end, one_end}
use Rattle.workers.specs.Desks.{Serves}
use Rattle.workers.specs.Workers.{WorkerView}
use Rattle.workers.proofs.DeskLemmas.{keeps_same}
use Rattle.workers.proofs.WorkerLemmas.{cause_close, cause_request, cause_same, closed_keeps, closed_settled, worker_next, worker_same}
use Rattle.workers.proofs.worker.ResolverWorker.serve_next_message.Goals as goal

pub invariant_of-self-in-Request : goal.invariant_of-self-in-Request
invariant_of-self-in-Request g c =
    let inside = c.self.inside in
    let before : WorkerView = record { taken = inside.end; desk = inside.desk; proxies_left = inside.proxies_left; cut_off = inside.cut_off } in
    let after : WorkerView = record before { taken = c.take.new.self; desk = c.take-in-Request.new.self } in
    let message = c.in-Ok.message in
    let held = c.in-Request.pending in
    let told : request_view message.proxy held.plain.resolver held.plain.row ≡ message = c.in-Request.ensures in
    let other : is_end message ≡ false = ap is_end (sym told) in
    worker_next inside.shared.now g.N.Naming.cells.config.proxies before after message c.self.invariant c.in-Ok.ensures.taken c.take-in-Request.ensures.keeps c.take-in-Request.ensures.settled c.take-in-Request.ensures.emptied
    (λ row is sound.
    let own : held.plain.resolver ≡ inside.desk.column.resolver = ap (λ (t : MessageView). t.to) told ∙ is.to ∙ sym c.self.invariant.resolver in
    let of : held.plain.row ≡ row = ap (λ (t : MessageView). t.row) told ∙ is.row_is in
    subst (Serves after.desk) of (c.take-in-Request.ensures.served own sound))
    (λ closes. let not : kinds.Request ≡ kinds.Close = ap (λ (t : MessageView). t.kind) told ∙ closes in absurd (cc))
    (ap (λ (n : ℕ). before.proxies_left + n) (no_end before.taken.got message other))
    (cause_request inside.shared.now held.plain.resolver held.plain.row before.taken.got message before.desk after.desk c.self.invariant.cause
    (ap (λ (t : MessageView). t.kind) (sym told)) (ap (λ (t : MessageView). t.to) (sym told)) (ap (λ (t : MessageView). t.row) (sym told)) c.self.invariant.resolver c.take-in-Request.ensures.other)

pub invariant_of-self-in-Close : goal.invariant_of-self-in-Close
invariant_of-self-in-Close g c =
    let inside = c.self.inside in
    let before : WorkerView = record { taken = inside.end; desk = inside.desk; proxies_left = inside.proxies_left; cut_off = inside.cut_off } in
    let after : WorkerView = record before { taken = c.take.new.self; desk = c.close.new.self } in
    let message = c.in-Ok.message in
    let told : close_view message.proxy ≡ message = c.in-Close.ensures in
    let other : is_end message ≡ false = ap is_end (sym told) in
    worker_next inside.shared.now g.N.Naming.cells.config.proxies before after message c.self.invariant c.in-Ok.ensures.taken
    (closed_keeps inside.desk after.desk c.close.ensures.column c.close.ensures.closed c.close.ensures.wanted) (closed_settled after.desk c.close.ensures.closed) (λ closed. c.close.ensures.held)
    (λ row is sound. let not : kinds.Close ≡ kinds.Request = ap (λ (t : MessageView). t.kind) told ∙ is.kind in absurd (cc))
    (λ closes. c.close.ensures.closed)
    (ap (λ (n : ℕ). before.proxies_left + n) (no_end before.taken.got message other))
    (cause_close inside.shared.now before.taken.got message before.desk after.desk c.self.invariant.cause (ap (λ (t : MessageView). t.kind) (sym told)) c.close.ensures.held c.close.ensures.none_held)

pub invariant_of-self-in-End : goal.invariant_of-self-in-End
invariant_of-self-in-End g c =
    let inside = c.self.inside in
    let before : WorkerView = record { taken = inside.end; desk = inside.desk; proxies_left = inside.proxies_left; cut_off = inside.cut_off } in
    let after : WorkerView = record before { taken = c.take.new.self; proxies_left = inside.proxies_left - 1 } in
    let message = c.in-Ok.message in
    let told : end_view message.proxy ≡ message = c.in-End.ensures in
    let last : is_end message ≡ true = ap is_end (sym told) in
    let some = ap (λ (v : WorkerView). v.proxies_left) c.self.view_is in
    worker_next inside.shared.now g.N.Naming.cells.config.proxies before after message c.self.invariant c.in-Ok.ensures.taken (keeps_same inside.desk) c.self.invariant.settled c.self.invariant.emptied
    (λ row is sound. let not : kinds.End ≡ kinds.Request = ap (λ (t : MessageView). t.kind) told ∙ is.kind in absurd (cc))
    (λ closes. let not : kinds.End ≡ kinds.Close = ap (λ (t : MessageView). t.kind) told ∙ closes in absurd (cc))
    (let more = one_end before.taken.got message last in omega (arith, more, some, c.requires))
    (cause_same inside.shared.now before.taken.got message inside.desk inside.desk c.self.invariant.cause refl)

pub invariant_of-self : goal.invariant_of-self
invariant_of-self g c =
    let inside = c.self.inside in
    let before : WorkerView = record { taken = inside.end; desk = inside.desk; proxies_left = inside.proxies_left; cut_off = inside.cut_off } in
    let after : WorkerView = record before { taken = c.take.new.self; cut_off = true } in
    worker_same inside.shared.now g.N.Naming.cells.config.proxies before after c.self.invariant c.in_default.ensures.none refl refl
