-- The request that was taken out is of a row that was judged since.
use Rattle.std.proofs.Common.{ap, sym, ◌∙◌, subst, ℕ, ◌<◌, List, length, slice_get, arith}
use Rattle.std.specs.Prelude.{IsFalse}
use Rattle.std.proofs.lemmas.Option.{same_Some, slice_get_within}
use Rattle.facts.specs.Stretches.{end_of}
use Rattle.locked_resolvers.specs.Requests.{RequestView}
use Rattle.workers.specs.Desks.{DeskView, KeepsServing, has_failed}
use Rattle.workers.proofs.DeskLemmas.{cause_moved, got, taken_out}
use Rattle.workers.specs.declared.gate.Place.{Place}
use Rattle.workers.specs.Refusing.{IsToldOf}
use Rattle.workers.proofs.desk.Desk.offer_at_place.Goals as goal

pub returns-clause-keeps : goal.returns-clause-keeps
returns-clause-keeps g c =
    let desk : List RequestView → DeskView = λ held. record { column = c.self.inside.column; held = held; closed = c.self.inside.closed; wanted = c.self.inside.wanted } in
    let q = c.remove.result in
    let place = c.args.place in
    let due = c.requires.due in
    let same = ap (λ (v : DeskView). length v.held) c.self.view_is in
    let within : place < length c.self.inside.held.items = omega (arith, same, slice_get_within c.args.self.now.held place due.0 due.1) in
    let judged : IsFalse (has_failed c.offer.new.self) → q.plain.row < end_of c.offer.new.self.column.rows =
    λ sound. subst (λ (r : RequestView). r.plain.row < end_of c.offer.new.self.column.rows) c.into_parts-request.ensures (c.offer.ensures.served sound) in
    subst (λ (v : DeskView). KeepsServing v c.offer.new.self) c.self.view_is
    (taken_out (desk c.self.inside.held.items) (desk c.remove.new.self.items) c.offer.new.self place q (got c.self.inside.held.items place q within c.remove.ensures.value) (ap desk c.remove.ensures.items) c.offer.ensures.keeps judged)

pub returns-clause-closed : goal.returns-clause-closed
returns-clause-closed g c =
    let desk : List RequestView → DeskView = λ held. record { column = c.self.inside.column; held = held; closed = c.self.inside.closed; wanted = c.self.inside.wanted } in
    let q = c.remove.result in
    let place = c.args.place in
    let due = c.requires.due in
    let same = ap (λ (v : DeskView). length v.held) c.self.view_is in
    let within : place < length c.self.inside.held.items = omega (arith, same, slice_get_within c.args.self.now.held place due.0 due.1) in
    let at = got c.self.inside.held.items place q within c.remove.ensures.value in
    λ r there.
    let is = same_Some q r (sym at ∙ ap (λ (v : DeskView). slice_get v.held place) c.self.view_is ∙ there) in
    cause_moved (desk c.remove.new.self.items) c.args.self.now c.offer.new.self _ r c.args.guard.now c.offer.new.guard (ap (λ (v : DeskView). v.closed) c.self.view_is) (c.into_parts-request.ensures ∙ is) c.offer.ensures.closed

pub returns-clause-entered : goal.returns-clause-entered
returns-clause-entered g c =
    let q = c.remove.result in
    let place = c.args.place in
    let due = c.requires.due in
    let same = ap (λ (v : DeskView). length v.held) c.self.view_is in
    let within : place < length c.self.inside.held.items = omega (arith, same, slice_get_within c.args.self.now.held place due.0 due.1) in
    let at = got c.self.inside.held.items place q within c.remove.ensures.value in
    λ r there.
    let is = same_Some q r (sym at ∙ ap (λ (v : DeskView). slice_get v.held place) c.self.view_is ∙ there) in
    let entered : ℕ → ℕ → Type 0 = λ to row. let one : Place = record { resolver = to; row = row } in g.G.Gate.has_entered c.args.gate.now one in
    subst (λ (to : ℕ). entered to r.plain.row) c.number.ensures.value
    (subst (entered c.number.result) (c.row.ensures ∙ ap (λ (s : RequestView). s.plain.row) (c.into_parts-request.ensures ∙ is)) c.enter.ensures)

pub returns-clause-told : goal.returns-clause-told
returns-clause-told g c =
    let q = c.remove.result in
    let place = c.args.place in
    let due = c.requires.due in
    let same = ap (λ (v : DeskView). length v.held) c.self.view_is in
    let within : place < length c.self.inside.held.items = omega (arith, same, slice_get_within c.args.self.now.held place due.0 due.1) in
    let at = got c.self.inside.held.items place q within c.remove.ensures.value in
    λ r there.
    let is = same_Some q r (sym at ∙ ap (λ (v : DeskView). slice_get v.held place) c.self.view_is ∙ there) in
    subst (λ (s : RequestView). IsToldOf c.args.guard.now s c.offer.new.guard c.offer.result) (c.into_parts-request.ensures ∙ is) c.offer.ensures.told
