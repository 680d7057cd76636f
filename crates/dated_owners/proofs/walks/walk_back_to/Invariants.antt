-- The owners from place i on are visited.
use Rattle.dated_owners.proofs.WalkedOwners.{IsWalked}
use Rattle.dated_owners.proofs.walks.walk_back_to.Given as goal

abbrev pub invariant-loop-i : goal.invariant-loop-i
invariant-loop-i l = IsWalked l.owners l.bound l.fn.flags l.i l.flags
