-- A request more is held back.
use Rattle.std.proofs.Common.{ap, subst, List}
use Rattle.locked_resolvers.specs.Requests.{RequestView}
use Rattle.workers.specs.Desks.{DeskView, KeepsServing}
use Rattle.workers.proofs.DeskLemmas.{one_more}
use Rattle.workers.proofs.desk.Desk.hold_back.Goals as goal

pub returns-in_default-clause-keeps : goal.returns-in_default-clause-keeps
returns-in_default-clause-keeps g c =
    let desk : List RequestView → DeskView = λ held. record { column = c.self.inside.column; held = held; closed = c.self.inside.closed; wanted = c.self.inside.wanted } in
    let more = one_more (desk c.self.inside.held.items) (desk c.push.new.self.items) c.args.pending (ap desk c.in_default.ensures.items) in
    subst (λ (v : DeskView). KeepsServing v (desk c.push.new.self.items)) c.self.view_is more.0

pub returns-in_default-clause-held : goal.returns-in_default-clause-held
returns-in_default-clause-held g c =
    let desk : List RequestView → DeskView = λ held. record { column = c.self.inside.column; held = held; closed = c.self.inside.closed; wanted = c.self.inside.wanted } in
    let more = one_more (desk c.self.inside.held.items) (desk c.push.new.self.items) c.args.pending (ap desk c.in_default.ensures.items) in
    λ sound. more.1
