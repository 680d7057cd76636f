-- The step of the key is put over the one that stood there.
use Rattle.std.proofs.Common.{◌∙◌, ap, arith, length, List}
use Rattle.std.specs.BTreeMap.{insert_entry}
use Rattle.share_judge.specs.Steps.{StepStart}
use Rattle.share_judge.proofs.Starts.{key_cmp}
use Rattle.share_judge.proofs.MapStarts.{starts_rise}
use Rattle.share_judge.proofs.AtKeys.{insert_length, now_put, before_put}
use Rattle.share_judge.proofs.key_map.KeyMap.overwrite.Goals as goal

pub invariant_of-self-2 : goal.invariant_of-self-2
invariant_of-self-2 c =
    let room = c.requires in
    let same = ap (λ (ss : List StepStart). length ss) c.self.view_is in
    let more = ap (λ (ss : List StepStart). length ss) c.in_ok-insert.ensures.entries in
    let one = insert_length c.self.inside.steps.entries c.args.key c.over-step.result in
    (starts_rise _ c.insert.ensures.ordered, omega (arith, room, same, more, one))

pub returns-clause-now : goal.returns-clause-now
returns-clause-now c = λ other.
    now_put c.args.self.now c.insert.new.self.entries c.args.key c.over-step.result c.args.version other
    (c.in_ok-insert.ensures.entries ∙ ap (λ (ss : List StepStart). insert_entry key_cmp ss c.args.key c.over-step.result) c.self.view_is) c.over-step.ensures.version

pub returns-clause-before : goal.returns-clause-before
returns-clause-before c = λ other.
    before_put c.args.self.now c.insert.new.self.entries c.args.key c.at.result c.over-step.result c.args.version other
    (c.in_ok-insert.ensures.entries ∙ ap (λ (ss : List StepStart). insert_entry key_cmp ss c.args.key c.over-step.result) c.self.view_is) c.at.ensures c.over-step.ensures.version c.over-step.ensures.before

pub returns-clause-rising : goal.returns-clause-rising
returns-clause-rising c = starts_rise _ c.insert.ensures.ordered
