use Rattle.std.proofs.Common.{◌≡◌, true, drop}
use Rattle.pages.proofs.Prints.{Leaves}
use Rattle.turns_run.specs.Lines.{transactions_text}
use Rattle.turns_run.specs.OrderOfMutations.{are_in_order}
use Rattle.turns_run.proofs.transactions.print_transactions.Given as goal

abbrev pub invariant-loop-outcome : goal.invariant-loop-outcome
invariant-loop-outcome g l = record {
  told : Leaves g.P.Page.has_printed l.fn.page l.page (transactions_text l.rest l.number (drop l.outcome-index l.outcomes)) (transactions_text l.tagged 0 l.outcomes);
  in_order : are_in_order l.number l.rest ≡ true;
  count : l.number ≡ l.outcome-index;
}
