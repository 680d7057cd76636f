-- A start with the step that its key has changes no version.
use Rattle.std.proofs.Common.{◌∙◌, refl, ap, subst, List}
use Rattle.std.specs.BTreeMap.{insert_entry}
use Rattle.share_judge.specs.Steps.{StepStart, AreRising}
use Rattle.share_judge.proofs.Starts.{key_cmp}
use Rattle.share_judge.proofs.MapStarts.{starts_rise}
use Rattle.share_judge.proofs.MapCalls.{put_there}
use Rattle.share_judge.proofs.Puts.{start_gained}
use Rattle.share_judge.proofs.step_map.StepMap.put_edge_if_missing.Goals as goal

pub invariant_of-self-2 : goal.invariant_of-self-2
invariant_of-self-2 c = starts_rise _ c.insert.ensures.ordered

pub returns-clause-gains : goal.returns-clause-gains
returns-clause-gains c =
    start_gained c.args.self.now c.insert.new.self.entries c.args.key c.args.edge.step (subst AreRising c.self.view_is c.self.invariant) (starts_rise _ c.insert.ensures.ordered) c.requires.0
    (c.in_ok-insert.ensures.entries ∙ ap (λ (ss : List StepStart). insert_entry key_cmp ss c.args.key c.args.edge.step) c.self.view_is)

pub returns-clause-there : goal.returns-clause-there
returns-clause-there c = put_there c.self.inside.steps.entries c.insert.new.self.entries c.args.key c.args.key c.args.edge.step refl c.in_ok-insert.ensures.entries
