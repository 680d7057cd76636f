use Rattle.pages.proofs.Prints.{prints_both, prints_as}
use Rattle.model.specs.Metadata.{routing}
use Rattle.scripts.specs.Lines.{routing_head}
use Rattle.cluster_lines.proofs.metadata_lines.print_metadata.Goals as goal

pub returns : goal.returns
unfolding routing
returns c =
    let head = prints_as c.print_routing_head.ensures (λ i. routing_head c.args.version (c.is_locked.ensures i) (c.row-metadata_version.ensures.value i)) in
    let printed = prints_both (prints_both head c.in_ok-print_routes.ensures) c.in_ok-print_asked_keys.ensures in
    c.in_ok-text.ensures _ _ (printed.more _ _ c.take_page-page.ensures)
