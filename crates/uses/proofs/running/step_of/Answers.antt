-- The row of a record gives its version.
use Rattle.std.proofs.Common.{◌≡◌, ◌∙◌, sym, ap, ap₂, ℕ, suc, ◌+◌, ◌*◌, arith}
use Rattle.model.specs.Configs.{Config}
use Rattle.uses.proofs.running.step_of.Goals as goal

pub returns-clause-versions : goal.returns-clause-versions
returns-clause-versions c = λ row rec at.
    let numbers = c.version_chain_law.ensures.numbers c.args.cluster.now.config c.args.cluster.now.world.history row rec c.config.ensures.sound.sequencer.history at in
    let next : suc row ≡ row + 1 = omega arith in
    let step : c.step.result ≡ c.args.cluster.now.config.step = c.step.ensures.value ∙ ap (λ (n : Config). n.step) c.config.ensures.value in
    numbers.1 ∙ ap₂ (λ (n m : ℕ). n * m) next (sym step)
