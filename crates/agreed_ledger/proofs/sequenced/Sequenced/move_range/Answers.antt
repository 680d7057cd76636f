use Rattle.std.proofs.Common.{ap, ℕ, ◌+◌, ◌<◌, arith}
use Rattle.model.specs.Configs.{Config}
use Rattle.agreed_ledger.proofs.SequenceLaws.{move_made}
use Rattle.agreed_ledger.proofs.sequenced.Sequenced.move_range.Goals as goal

pub invariant_of-self-2 : goal.invariant_of-self-2
invariant_of-self-2 g c =
    let config = g.N.Naming.cells.config in
    let there : c.args.dest < config.resolvers = omega (arith, c.if-resolvers-dest.false, c.resolvers.ensures.value, ap (λ (n : Config). n.resolvers) c.config.ensures.value) in (
      c.self.invariant.0,
      move_made config c.self.inside.records.known c.self.inside.moves c.push.new.self _ c.in_ok-push.ensures.ok
          (ap (λ (v : ℕ). v + 1) c.self.invariant.2.version_is) there c.self.invariant.1,
      c.self.invariant.2,
    )
