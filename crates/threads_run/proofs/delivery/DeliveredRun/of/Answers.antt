-- What was compared is of the sides of all proxies and of all workers.
use Rattle.std.proofs.Common.{◌≡◌, sym, subst, rules}
use Rattle.std.specs.Prelude.{Result, Err, IfErr}
use Rattle.threads_lines.specs.Faults.{FailsCheckOf}
use Rattle.threads_lines.specs.declared.faults.RunFault.{RunFault}
use Rattle.threads_run.specs.Delivered.{GoesByInboxes, RunView}
use Rattle.threads_run.proofs.delivery.DeliveredRun.of.Goals as goal

pub invariant_of-result : goal.invariant_of-result
invariant_of-result g c = (
  c.args.sides.items,
  c.args.workers.items,
  record {
    all_sides = c.requires.sides;
    in_order = c.requires.in_order;
    all_workers = c.requires.workers;
    each = c.in_ok-check_delivered.ensures.checked;
  },
)

pub returns-clause-delivered : goal.returns-clause-delivered
returns-clause-delivered g c = record {
  all_sides = c.requires.sides;
  in_order = c.requires.in_order;
  all_workers = c.requires.workers;
  each = c.in_ok-check_delivered.ensures.checked;
}

pub returns-in_err-check_delivered-clause-err : goal.returns-in_err-check_delivered-clause-err
returns-in_err-check_delivered-clause-err g c =
    let config = g.N.Naming.cells.config in
    let records = c.args.history.records in
    let failed = c.in_err-check_delivered.ensures.err in
    let is : c.from_residual.result ≡ Err c.in_err-check_delivered.field-0.0 = search rules in
    subst (λ (r : Result RunView RunFault). IfErr r (FailsCheckOf (GoesByInboxes config records c.args.sides.items c.args.workers.items))) (sym is)
    (failed.0, λ goes. failed.1 goes.each)
