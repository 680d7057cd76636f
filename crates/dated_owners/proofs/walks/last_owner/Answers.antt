-- The last of them is the last owner.
use Rattle.dated_owners.proofs.WalkedOwners.{last_at}
use Rattle.dated_owners.proofs.walks.last_owner.Goals as goal

pub returns-in-len1-up : goal.returns-in-len1-up
returns-in-len1-up c = λ r. last_at c.args.owners.now _ r c.in-len1-up.len_at_least
