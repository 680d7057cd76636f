use Rattle.pages.proofs.Prints.{prints_both}
use Rattle.turns_run.proofs.transactions.print_mutation.Goals as goal

pub returns : goal.returns
returns g c = prints_both c.print_mutation_tags.ensures c.print_private_copy.ensures
