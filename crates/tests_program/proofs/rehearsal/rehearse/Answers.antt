use Rattle.tests_program.proofs.RehearsalLemmas.{rehearsed}
use Rattle.tests_program.proofs.rehearsal.rehearse.Goals as goal

pub returns : goal.returns
returns g c =
    let before = c.args.device.now in
    let after = c.answer_lines.new.device in
    rehearsed g.A.Answering.rules _ _ before.rest.now after.rest.now before.calls.items after.calls.items c.answer_lines.result c.requires c.answer_lines.ensures.session
