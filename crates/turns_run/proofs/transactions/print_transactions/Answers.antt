use Rattle.std.proofs.Common.{◌+◌, ap, add-one, arith}
use Rattle.std.proofs.lemmas.List.{at_drop_all, drop_more}
use Rattle.pages.proofs.Prints.{leaves_all, leaves_less, leaves_none, prints_both}
use Rattle.turns_run.specs.Lines.{transactions_text}
use Rattle.turns_run.proofs.OrderLemmas.{next_transaction}
use Rattle.turns_run.proofs.transactions.print_transactions.Goals as goal

pub loop-outcome-init : goal.loop-outcome-init
loop-outcome-init g c = record { told = leaves_all _ _; in_order = c.requires; count = omega arith }

pub loop-outcome-preserved : goal.loop-outcome-preserved
loop-outcome-preserved g c =
    let l = c.loop-outcome in
    let after = c.print_mutations_at_front-rest.ensures.later in
    let split = drop_more c.args.outcomes.now l.outcome-index _ c.loop-outcome-test.true in
    record {
      told = leaves_less l.invariant.told (prints_both c.print_transaction.ensures c.print_mutations_at_front-rest.ensures.printed) (next_transaction l.number l.rest.now c.print_mutations_at_front-rest.result.now _ _ _ split after);
      in_order = rw add-one after.in_order;
      count = ap (λ n. n + 1) l.invariant.count;
    }

pub returns : goal.returns
returns g c =
    let l = c.loop-outcome in
    leaves_none l.invariant.told (at_drop_all (transactions_text l.rest.now l.number) c.args.outcomes.now l.outcome-index (omega arith))
