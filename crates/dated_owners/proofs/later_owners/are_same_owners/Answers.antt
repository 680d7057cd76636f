-- Lists of different lengths differ.
use Rattle.dated_owners.proofs.LaterOwnerLaws.{unequal}
use Rattle.dated_owners.proofs.later_owners.are_same_owners.Goals as goal

pub returns-then-owners-others : goal.returns-then-owners-others
returns-then-owners-others c = unequal c.args.owners.now c.args.others.now c.if-owners-others.true
