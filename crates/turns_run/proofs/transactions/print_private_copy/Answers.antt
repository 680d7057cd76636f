use Rattle.pages.proofs.Prints.{prints_nothing}
use Rattle.turns_run.proofs.transactions.print_private_copy.Goals as goal

pub returns-in-None : goal.returns-in-None
returns-in-None g c = rw c.in-None.is (prints_nothing c.args.page.now)
