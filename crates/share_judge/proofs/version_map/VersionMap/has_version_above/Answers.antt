-- A key alone is above the bound, or else the steps decide.
use Rattle.std.proofs.Common.{◌∙◌, ap}
use Rattle.system_keys.specs.Keys.{Range}
use Rattle.share_judge.specs.Steps.{has_start_above, is_written_above, starts_now}
use Rattle.share_judge.specs.Versions.{Versions, all_now}
use Rattle.share_judge.proofs.Above.{both_above, alone_decides, steps_decide}
use Rattle.share_judge.proofs.version_map.VersionMap.has_version_above.Goals as goal

pub returns-then-alone : goal.returns-then-alone
returns-then-alone c =
    let range : Range = record { begin = c.args.begin.now; end = c.args.end.now } in
    alone_decides c.has_version_above-alone.result (has_start_above c.args.bound (starts_now c.self.inside.keys) range) (is_written_above c.args.bound (starts_now c.self.inside.steps) range) (is_written_above c.args.bound (all_now c.args.self.now) range) c.has_version_above-alone.ensures c.if-alone.true
    (both_above c.args.bound range (record { steps = c.self.inside.steps; keys = c.self.inside.keys }) c.self.invariant ∙ ap (λ (v : Versions). is_written_above c.args.bound (all_now v) range) c.self.view_is)

pub returns-else-alone : goal.returns-else-alone
returns-else-alone c =
    let range : Range = record { begin = c.args.begin.now; end = c.args.end.now } in
    steps_decide c.has_version_above-alone.result (has_start_above c.args.bound (starts_now c.self.inside.keys) range) c.has_version_above.result (is_written_above c.args.bound (starts_now c.self.inside.steps) range) (is_written_above c.args.bound (all_now c.args.self.now) range) c.has_version_above-alone.ensures c.if-alone.false c.has_version_above.ensures
    (both_above c.args.bound range (record { steps = c.self.inside.steps; keys = c.self.inside.keys }) c.self.invariant ∙ ap (λ (v : Versions). is_written_above c.args.bound (all_now v) range) c.self.view_is)
