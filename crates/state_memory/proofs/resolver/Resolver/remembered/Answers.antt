-- The rows that are kept are counted.
use Rattle.std.proofs.Common.{rules, ◌≡◌, ◌∙◌, ap, length}
use Rattle.model.specs.ResolverMemory.{ResolverView}
use Rattle.model.proofs.Resolvers.Growth.{kept_rows_counted}
use Rattle.state_memory.proofs.resolver.Resolver.remembered.Goals as goal

pub returns-clause-count : goal.returns-clause-count
returns-clause-count c = λ judged stands.
    let many : c.len.result ≡ length c.self.inside.rows.items = search rules in
    many ∙ ap (λ (v : ResolverView). length v.rows) c.self.view_is ∙ kept_rows_counted c.args.self.now judged stands
