-- The longer of the two is the history now.
use Rattle.std.proofs.Common.{◌≡◌, ◌∙◌, ap, sym, subst}
use Rattle.facts.specs.Stretches.{Stretch}
use Rattle.model.specs.Records.{Record, IsHistory}
use Rattle.threads_lines.proofs.HistoryLemmas.{has_learned}
use Rattle.threads_lines.proofs.run_history.RunHistory.learn.Goals as goal

pub invariant_of-self : goal.invariant_of-self
invariant_of-self g c =
    subst (λ (s : Stretch Record). (s.first ≡ 0) × IsHistory g.N.Naming.cells.config s.known) (sym c.in_err-extend_from.ensures) c.self.invariant

pub invariant_of-self-2 : goal.invariant_of-self-2
invariant_of-self-2 g c =
    let learned = has_learned g.N.Naming.cells.config c.self.inside.records c.args.other.now c.extend_from.new.self c.self.invariant.0 c.requires.first c.agree.ensures c.in_ok-extend_from.ensures c.self.invariant.1 c.requires.history in
    (ap (λ (s : Stretch Record). s.first) c.in_ok-extend_from.ensures ∙ c.self.invariant.0, learned.history)

pub returns-clause-learned : goal.returns-clause-learned
returns-clause-learned g c =
    (has_learned g.N.Naming.cells.config c.self.inside.records c.args.other.now c.extend_from.new.self c.self.invariant.0 c.requires.first c.agree.ensures c.in_ok-extend_from.ensures c.self.invariant.1 c.requires.history).learned
