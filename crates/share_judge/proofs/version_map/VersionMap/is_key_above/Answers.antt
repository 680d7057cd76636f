-- The later version of the key is that of both.
use Rattle.std.proofs.Common.{◌∙◌, sym, ap, ap₂, max, nat_lt, subst}
use Rattle.share_judge.specs.declared.step.Step.{Step}
use Rattle.share_judge.specs.Steps.{no_step, last_from}
use Rattle.share_judge.specs.Versions.{Versions, AreInOrder, all_now}
use Rattle.share_judge.proofs.Readings.{last_read}
use Rattle.share_judge.proofs.AtKeys.{at_read}
use Rattle.share_judge.proofs.WithKeys.{all_rising, all_last}
use Rattle.share_judge.proofs.Above.{only_above}
use Rattle.share_judge.proofs.version_map.VersionMap.is_key_above.Goals as goal

pub returns : goal.returns
returns c =
    let read = λ (step : Step). step.version in
    let order = subst AreInOrder c.self.view_is c.self.invariant in
    ap (nat_lt c.args.bound)
    (c.max.ensures
    ∙ ap₂ max (ap read c.at-alone.ensures ∙ sym (at_read read c.self.inside.keys c.args.key.now)) (ap read c.at-step.ensures ∙ sym (last_read read no_step c.self.inside.steps c.args.key.now))
    ∙ sym (all_last read (record { steps = c.self.inside.steps; keys = c.self.inside.keys }) c.args.key.now c.self.invariant)
    ∙ ap (λ (v : Versions). last_from 0 (all_now v) c.args.key.now) c.self.view_is)
    ∙ only_above c.args.bound c.args.key.now (all_now c.args.self.now) (all_rising read c.args.self.now order)
