use Rattle.std.proofs.Common.{length}
use Rattle.turns_run.proofs.OrderLemmas.{HasPrinted}
use Rattle.turns_run.proofs.transactions.print_mutations_at_front.Given as goal

abbrev pub invariant-mutations : goal.invariant-mutations
invariant-mutations g l = HasPrinted g.P.Page.has_printed l.number l.tagged l.later l.fn.page l.page

abbrev pub decreases-mutations : goal.decreases-mutations
decreases-mutations g l = length l.later
