-- A resolver before its first request.
use Rattle.std.proofs.Common.{◌∙◌, ◌<◌, ap, sym, arith}
use Rattle.facts.specs.Stretches.{Stretch}
use Rattle.agreed_ledger.specs.Cells.{ColumnView}
use Rattle.model.specs.Configs.{Config}
use Rattle.model.specs.Records.{Record}
use Rattle.locked_resolvers.proofs.ServedRequests.{new_keeps}
use Rattle.locked_resolvers.proofs.locked_resolver.LockedResolver.new.Goals as goal

pub invariant_of-result : goal.invariant_of-result
invariant_of-result g c =
    let config = g.N.Naming.cells.config in
    let memory = c.in_ok-new.field-0 in
    let is = c.config-config.ensures.value in
    let there : memory.number < config.resolvers = omega (arith, c.in_ok-new.ensures.number, c.resolvers.ensures.value, ap (λ (n : Config). n.resolvers) is, c.if-resolvers-number.false) in (
      ap (λ (s : Stretch Record). s.first) c.new-2.ensures,
      ap (λ (s : ColumnView). s.rows.first) c.new-3.ensures,
      ap (λ (s : ColumnView). s.resolver) c.new-3.ensures ∙ sym c.in_ok-new.ensures.number,
      new_keeps config _ c.config-config.ensures.kept.config there
          (ap (λ (s : Stretch Record). s.known) c.new-2.ensures)
          (ap (λ (s : ColumnView). s.rows.known) c.new-3.ensures)
          (c.in_ok-new.ensures.proxies ∙ c.proxies.ensures.value ∙ ap (λ (n : Config). n.proxies) is)
          (c.in_ok-new.ensures.window ∙ c.window.ensures.value ∙ ap (λ (n : Config). n.window) is)
          c.in_ok-new.ensures.stands,
    )
