use Rattle.std.proofs.Common.{ap, ◌<◌, arith}
use Rattle.model.specs.Configs.{Config}
use Rattle.agreed_ledger.proofs.CellLaws.{verdict_cells_length}
use Rattle.agreed_ledger.proofs.ledger.Ledger.verdict_note.Goals as goal

pub verdict_cell-requires : goal.verdict_cell-requires
verdict_cell-requires g c =
    let cells = g.N.Naming.cells in
    let there : c.args.resolver < cells.config.resolvers = omega (arith, c.if-resolvers-resolver.false, c.resolvers.ensures.value, ap (λ (n : Config). n.resolvers) c.config.ensures.value) in
    omega (arith, verdict_cells_length cells c.args.resolver c.config.ensures.kept there, c.if-rows-row.false, c.rows.ensures.value)
