-- One of the batches was refused.
use Rattle.std.proofs.Common.{◌≡◌, inl, inr, rules}
use Rattle.std.specs.Prelude.{Err}
use Rattle.uses.specs.Tickets.{RefusesOneOfTwo}
use Rattle.uses.proofs.CommitRefusals.{if_err}
use Rattle.uses.proofs.sequencing.sequence_two.Goals as goal

pub returns-in_err-first-clause-refused : goal.returns-in_err-first-clause-refused
returns-in_err-first-clause-refused g c =
    let refusal = c.in_err-first.field-0.0 in
    let is : c.from_residual.result ≡ Err refusal = search rules in
    if_err (RefusesOneOfTwo g.N.Naming.cells c.args.guard.now c.args.proxy c.args.batch c.args.next_proxy c.sequence_or_drop.new.guard) c.from_residual.result refusal is
    (inl c.in_err-first.ensures.refused)

pub returns-in_err-second-clause-refused : goal.returns-in_err-second-clause-refused
returns-in_err-second-clause-refused g c =
    let refusal = c.in_err-second.field-0.0 in
    let is : c.from_residual-in_err-second.result ≡ Err refusal = search rules in
    if_err (RefusesOneOfTwo g.N.Naming.cells c.args.guard.now c.args.proxy c.args.batch c.args.next_proxy c.sequence_or_drop-2.new.guard) c.from_residual-in_err-second.result refusal is
    (inr (c.sequence_or_drop.new.guard, c.in_ok-first.first, c.in_ok-first.ensures.sequenced, c.in_err-second.ensures.refused))
