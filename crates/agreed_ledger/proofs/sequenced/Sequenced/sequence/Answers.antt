use Rattle.std.proofs.Common.{◌≡◌, ap, sym, subst, ◌∙◌, ℕ, ◌+◌, ◌<◌, arith}
use Rattle.std.specs.Prelude.{slice_set}
use Rattle.facts.specs.Stretches.{Stretch}
use Rattle.model.specs.Configs.{Config, version_limit}
use Rattle.model.specs.Records.{Record, last_version}
use Rattle.model.specs.World.{record_after}
use Rattle.agreed_ledger.specs.Sequencing.{KeepsVersions, SequencedView}
use Rattle.agreed_ledger.proofs.SequenceLaws.{record_given, versions_kept}
use Rattle.agreed_ledger.proofs.sequenced.Sequenced.sequence.Goals as goal

pub of-requires-2-clause-history : goal.of-requires-2-clause-history
of-requires-2-clause-history g c =
    let config = g.N.Naming.cells.config in
    let h = c.self.inside.records.known in
    let moves = c.self.inside.moves in
    let is : c.in-Ok.rec ≡ record_after config h moves c.args.proxy c.args.batch = c.in-Ok.ensures ∙ ap (λ (s : SequencedView). record_after config s.records s.moves c.args.proxy c.args.batch) (sym c.self.view_is) in
    let there : c.args.proxy < config.proxies = omega (arith, c.if-proxies-proxy.false, c.proxies.ensures.value, ap (λ (n : Config). n.proxies) c.config.ensures.value) in
    let step : c.step-step.result ≡ config.step = c.step-step.ensures.value ∙ ap (λ (n : Config). n.step) c.config-2.ensures.value in
    let below : last_version h + config.step < version_limit = omega (arith, c.if-step-self.false, step, c.self.invariant.2.version_is) in
    (record_given config h moves c.args.proxy c.args.batch c.in-Ok.rec c.in-Ok-set.records.known is
    (ap (λ (s : Stretch Record). s.known) (c.in-Ok-set.ensures.copied ∙ c.in-Ok-set.ensures.gained)) c.self.invariant.1 there below).history

pub invariant_of-self-2 : goal.invariant_of-self-2
invariant_of-self-2 g c =
    let config = g.N.Naming.cells.config in
    let h = c.self.inside.records.known in
    let moves = c.self.inside.moves in
    let is : c.in-Ok.rec ≡ record_after config h moves c.args.proxy c.args.batch = c.in-Ok.ensures ∙ ap (λ (s : SequencedView). record_after config s.records s.moves c.args.proxy c.args.batch) (sym c.self.view_is) in
    let version = c.self.inside.version in
    let own = c.self.inside.own_versions.items in
    let p = c.args.proxy in
    let there : p < config.proxies = omega (arith, c.if-proxies-proxy.false, c.proxies.ensures.value, ap (λ (n : Config). n.proxies) c.config.ensures.value) in
    let step : c.step-step.result ≡ config.step = c.step-step.ensures.value ∙ ap (λ (n : Config). n.step) c.config-2.ensures.value in
    let below : version + config.step < version_limit = omega (arith, c.if-step-self.false, step) in
    let below_last : last_version h + config.step < version_limit = omega (arith, below, c.self.invariant.2.version_is) in
    let pushed = ap (λ (s : Stretch Record). s.known) c.in-Ok-set.ensures.gained in (
      ap (λ (s : Stretch Record). s.first) c.in-Ok-set.ensures.gained ∙ c.self.invariant.0,
      record_given config h moves p c.args.batch c.in-Ok.rec c.set.new.self.known is pushed c.self.invariant.1 there below_last,
      subst (λ (n : ℕ). KeepsVersions config c.set.new.self.known (version + n) (slice_set own p (version + n))) (sym step)
          (versions_kept config h moves p c.args.batch c.in-Ok.rec c.set.new.self.known version own is pushed c.self.invariant.2 below),
    )
