-- The record of a ticket stands in a history.
use Rattle.std.proofs.Common.{◌≡◌, rules, slice_get}
use Rattle.std.specs.declared.option.Option.TheVariants.{Some}
use Rattle.uses.proofs.sequencing.record_of_ticket.Goals as goal

pub returns-clause-follows : goal.returns-clause-follows
returns-clause-follows g c =
    let there : slice_get c.args.ticket.now.records c.args.ticket.now.row ≡ Some c.in-Some.rec.now = search rules in
    c.records.ensures.kept.history c.args.ticket.now.row c.in-Some.rec.now there
