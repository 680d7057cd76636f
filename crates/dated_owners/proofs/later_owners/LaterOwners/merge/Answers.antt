-- The merged owners take the place of those before.
use Rattle.std.proofs.Common.{rules}
use Rattle.dated_owners.proofs.MergedOwnerLaws.{merged_some}
use Rattle.dated_owners.proofs.later_owners.LaterOwners.merge.Goals as goal

pub returns-in-Ok : goal.returns-in-Ok
returns-in-Ok c = merged_some c.args.self.now c.as_slice-then-has_one_date_twice.result.now c.in-Ok.list.items (search rules) (search rules) c.in-Ok.ensures
