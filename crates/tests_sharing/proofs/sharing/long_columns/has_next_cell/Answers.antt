use Rattle.std.proofs.Common.{ap, ◌<◌, arith}
use Rattle.model.specs.Configs.{Config}
use Rattle.tests_sharing.proofs.sharing.long_columns.has_next_cell.Goals as goal

pub returns : goal.returns
returns g c =
    let cells = g.N.Naming.cells in
    let there : c.args.column.now.resolver < cells.config.resolvers = omega (arith, c.if-resolvers-resolver.false, c.resolvers.ensures.value, ap (λ (n : Config). n.resolvers) c.config.ensures.value, c.resolver.ensures) in
    let same = c.rows.ensures.columns c.args.column.now.resolver there in
    omega (arith, same, c.if-rows-end.false, c.rows.ensures.value, c.end.ensures.value)
