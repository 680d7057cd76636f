-- What the test of the two keys says.
use Rattle.share_judge.proofs.WalkBack.{test_false}
use Rattle.share_judge.proofs.step_map.step_up_to.Goals as goal

pub returns-then-le-clause-up_to : goal.returns-then-le-clause-up_to
returns-then-le-clause-up_to c = test_false c.args.key.now c.args.begin.now c.le.result c.le.ensures c.if-le.true
