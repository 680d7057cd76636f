-- What is counted of the messages tells whether all were taken.
use Rattle.std.proofs.Common.{◌≡◌, ◌∙◌, refl, sym, true, false}
use Rattle.threads_run.proofs.DeliveryLemmas.{other_sent, other_taken, taken_all}
use Rattle.threads_run.proofs.delivery.check_worker.Goals as goal

pub returns-clause-checked : goal.returns-clause-checked
returns-clause-checked g c =
    let told = c.in-Ok.ensures in
    let counts = c.in-Ok.counts in
    taken_all c.args.messages g.N.Naming.cells.config.proxies c.args.worker.now c.args.sender counts.sent counts.taken
    c.requires.messages c.requires.ended c.closed.ensures.kept (sym c.closed.ensures.value ∙ c.if-closed.false)
    told.resolver told.begins told.sent told.taken c.if-counts-messages.false c.if-counts-messages-2.false

pub returns-then-closed-clause-err : goal.returns-then-closed-clause-err
returns-then-closed-clause-err g c =
    (refl, λ all. let other : true ≡ false = sym c.if-closed.true ∙ c.closed.ensures.value ∙ all.not_closed in cc)

pub returns-then-counts-messages-clause-err : goal.returns-then-counts-messages-clause-err
returns-then-counts-messages-clause-err g c =
    (refl, other_sent c.args.messages c.args.worker.now c.args.sender c.in-Ok.counts.sent c.requires.messages c.in-Ok.ensures.sent c.if-counts-messages.true)

pub returns-then-counts-messages-2-clause-err : goal.returns-then-counts-messages-2-clause-err
returns-then-counts-messages-2-clause-err g c =
    (refl, other_taken c.args.messages c.args.worker.now c.args.sender c.in-Ok.counts.taken c.requires.messages c.in-Ok.ensures.taken c.if-counts-messages-2.true)

pub returns-in_default-clause-err : goal.returns-in_default-clause-err
returns-in_default-clause-err g c = (refl, λ all. c.in_default.ensures.refused.0 all.resolver)
