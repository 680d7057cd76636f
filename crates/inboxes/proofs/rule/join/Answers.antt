-- Joining a pass keeps the rule, and the worker's pass is told what the proxy sent.
use Rattle.std.proofs.Common.{ap, refl, subst}
use Rattle.inboxes.specs.declared.views.View.{View}
use Rattle.inboxes.specs.Delivers.{IsToldMore}
use Rattle.inboxes.specs.Places.{known}
use Rattle.inboxes.proofs.Moves.{merges, learns}
use Rattle.inboxes.proofs.rule.join.Goals as goal

pub absorb-requires-clause-rule : goal.absorb-requires-clause-rule
absorb-requires-clause-rule g c = merges _ _ _ _ c.requires.worker c.requires.sender

pub learn_as-requires-clause-rule : goal.learn_as-requires-clause-rule
learn_as-requires-clause-rule g c = learns _ _ (ap (λ (v : View). v.gets) c.absorb.ensures.rule)

pub returns-clause-begins : goal.returns-clause-begins
returns-clause-begins g c =
    let ended = known c.args.ended in
    let told = subst IsToldMore c.absorb.ensures.rule c.learn_as.ensures.rule.1 in
    told (ended.from, ended.put) refl
