-- The key alone is written, or the steps are.
use Rattle.std.proofs.Common.{◌∙◌, subst}
use Rattle.system_keys.specs.Keys.{holds}
use Rattle.share_judge.specs.Steps.{HaveVersion, version_before, starts_now}
use Rattle.share_judge.specs.Versions.{Versions}
use Rattle.share_judge.proofs.VersionCalls.{on_ok, key_over, key_before, steps_over, steps_same}
use Rattle.share_judge.proofs.version_map.VersionMap.overwrite.Goals as goal

pub returns-then-has_room-clause-over : goal.returns-then-has_room-clause-over
returns-then-has_room-clause-over c =
    on_ok c.overwrite.result
    (λ now. key_over c.args.self.now c.args.range.now c.self.inside.steps c.self.inside.keys c.overwrite.new.self c.in_ok-key.key c.args.version c.self.view_is (c.is_one_key.ensures c.if-is_one_key.true) (c.in_ok-key.ensures ∙ c.begin.ensures.value) c.self.invariant.steps c.self.invariant.keys c.overwrite.ensures.rising now c.requires)
    c.overwrite.ensures.now

pub returns-then-has_room-clause-before : goal.returns-then-has_room-clause-before
returns-then-has_room-clause-before c =
    key_before c.args.self.now c.self.inside.steps c.self.inside.keys c.overwrite.new.self c.args.version c.self.view_is c.self.invariant.steps c.self.invariant.keys c.overwrite.ensures.rising c.overwrite.ensures.before

pub returns-then-has_room-clause-listed : goal.returns-then-has_room-clause-listed
returns-then-has_room-clause-listed c =
    on_ok c.overwrite.result
    (λ now. subst (λ (v : Versions). HaveVersion c.args.version (starts_now v.steps) c.args.listed.now.items → HaveVersion c.args.version (starts_now c.self.inside.steps) c.args.listed.now.items) c.self.view_is (λ have. have))
    c.overwrite.ensures.now

pub returns-clause-over : goal.returns-clause-over
returns-clause-over c =
    on_ok c.overwrite-2.result
    (λ over. steps_over c.args.self.now c.self.inside.steps c.self.inside.keys c.overwrite-2.new.self (holds c.args.range.now) c.args.version c.self.view_is c.self.invariant.steps c.self.invariant.keys c.overwrite-2.ensures.rising over c.requires)
    c.overwrite-2.ensures.over

pub returns-clause-before : goal.returns-clause-before
returns-clause-before c =
    steps_same (version_before c.args.version) c.args.self.now c.self.inside.steps c.self.inside.keys c.overwrite-2.new.self c.self.view_is c.self.invariant.steps c.self.invariant.keys c.overwrite-2.ensures.rising c.overwrite-2.ensures.before

pub returns-clause-listed : goal.returns-clause-listed
returns-clause-listed c =
    on_ok c.overwrite-2.result
    (λ listed. subst (λ (v : Versions). HaveVersion c.args.version (starts_now v.steps) c.args.listed.now.items → HaveVersion c.args.version (starts_now c.overwrite-2.new.self) c.overwrite-2.new.listed.items) c.self.view_is listed)
    c.overwrite-2.ensures.listed
