-- The end has a start, and the begin gets one with the version.
use Rattle.std.proofs.Common.{◌≡◌, ◌∙◌, ap, List, rules}
use Rattle.std.specs.BTreeMap.{insert_entry}
use Rattle.share_judge.specs.Steps.{StepStart, settled, starts_before}
use Rattle.share_judge.proofs.Starts.{key_cmp}
use Rattle.share_judge.proofs.MapStarts.{starts_rise}
use Rattle.share_judge.proofs.Free.{end_free}
use Rattle.share_judge.proofs.Puts.{over_now, over_before}
use Rattle.share_judge.proofs.step_map.StepMap.overwrite_between_starts.Goals as goal

pub invariant_of-self-2 : goal.invariant_of-self-2
invariant_of-self-2 c = starts_rise _ c.insert.ensures.ordered

pub returns-in_err-put_edge_if_missing-clause-before : goal.returns-in_err-put_edge_if_missing-clause-before
returns-in_err-put_edge_if_missing-clause-before c = c.put_edge_if_missing.ensures.gains.same.before c.args.version

pub returns-in_err-insert-clause-before : goal.returns-in_err-insert-clause-before
returns-in_err-insert-clause-before c = λ dropped.
    let same : c.insert.new.self.entries ≡ c.put_edge_if_missing.new.self = search rules in
    ap (λ (ss : List StepStart). settled dropped 0 (starts_before c.args.version ss)) same
    ∙ c.put_edge_if_missing.ensures.gains.same.before c.args.version dropped

pub returns-clause-over : goal.returns-clause-over
returns-clause-over c =
    over_now c.args.self.now c.put_edge_if_missing.new.self c.insert.new.self.entries c.args.begin c.args.end c.over.result c.args.version c.requires.below c.requires.rising (c.put_edge_if_missing.ensures.gains.rising c.requires.rising) c.put_edge_if_missing.ensures.gains.same c.in_ok-put_edge_if_missing.ensures.there (end_free c.args.self.now c.put_edge_if_missing.new.self c.args.begin c.args.end c.requires.is_free c.put_edge_if_missing.ensures.gains.no_more) c.over.ensures.version
    (c.in_ok-insert.ensures.entries ∙ ap (λ (ss : List StepStart). insert_entry key_cmp ss c.args.begin c.over.result) c.self.view_is)

pub returns-clause-before : goal.returns-clause-before
returns-clause-before c =
    over_before c.args.self.now c.put_edge_if_missing.new.self c.insert.new.self.entries c.args.begin c.args.at_begin c.over.result c.args.version c.requires.rising (c.put_edge_if_missing.ensures.gains.rising c.requires.rising) c.put_edge_if_missing.ensures.gains.same c.requires.at_begin c.over.ensures.version c.over.ensures.before
    (c.in_ok-insert.ensures.entries ∙ ap (λ (ss : List StepStart). insert_entry key_cmp ss c.args.begin c.over.result) c.self.view_is)

pub returns-clause-rising : goal.returns-clause-rising
returns-clause-rising c = starts_rise _ c.insert.ensures.ordered
