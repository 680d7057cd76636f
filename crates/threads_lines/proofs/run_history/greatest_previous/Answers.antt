-- The step is that of the ledger.
use Rattle.std.proofs.Common.{◌≡◌, ◌∙◌, ap, subst, arith}
use Rattle.model.specs.Configs.{Config, IsConfig}
use Rattle.threads_lines.proofs.run_history.greatest_previous.Goals as goal

pub returns : goal.returns
returns g c =
    let config = g.N.Naming.cells.config in
    let step : c.step-step.result ≡ config.step = c.step-step.ensures.value ∙ ap (λ (n : Config). n.step) c.config.ensures.value in
    let limits : IsConfig config = subst (λ (n : Config). IsConfig n) c.config.ensures.value c.step-step.ensures.limits in
    omega (arith, step, limits.step.1)
