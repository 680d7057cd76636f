use Rattle.pages.proofs.Prints.{prints_both}
use Rattle.scripts.proofs.lines.print_routing_head.Goals as goal

pub returns : goal.returns
returns g c =
    prints_both (prints_both c.print_version.ensures c.print_locked.ensures) c.print_metadata_version.ensures
