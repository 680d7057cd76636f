-- The proxy before its first record is agreed up to row 0.
use Rattle.std.proofs.Common.{◌∙◌, ◌<◌, sym, ap, subst, List, arith}
use Rattle.facts.specs.Stretches.{Stretch}
use Rattle.model.specs.Configs.{Config}
use Rattle.model.specs.Records.{Record}
use Rattle.locked_cluster.specs.Proxies.{IsLockedProxy}
use Rattle.locked_cluster.proofs.ProxyBegins.{new_keeps}
use Rattle.locked_cluster.proofs.proxies.locked_proxy.LockedProxy.new.Goals as goal

pub invariant_of-result : goal.invariant_of-result
invariant_of-result g c =
    let config = g.N.Naming.cells.config in
    let v = c.in_ok-proxy.proxy in
    let columns = c.in_ok-columns.columns in
    let same = c.in_ok-proxy.ensures.config ∙ c.config-config.ensures.value in
    let there : v.number < config.proxies = omega (arith, c.in_ok-proxy.ensures.number, c.if-proxies-number.false, c.proxies.ensures.value, ap (λ (n : Config). n.proxies) c.config-config.ensures.value) in
    let is = c.in_ok-proxy.ensures in
    let none = c.new-3.ensures in (
      sym is.number,
      ap (λ (t : Stretch Record). t.first) none,
      subst (λ (rs : List Record). IsLockedProxy config (record { proxy = v; records = rs; columns = columns })) (sym (ap (λ (t : Stretch Record). t.known) none))
          (new_keeps config v columns c.config-config.ensures.kept.config same there is.begun.0 is.begun.1 is.finished.0 is.finished.1 is.moves),
    )
