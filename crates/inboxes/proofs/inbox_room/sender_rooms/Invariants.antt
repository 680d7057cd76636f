-- There are as many rooms as turns of the loop so far.
use Rattle.std.proofs.Common.{◌≡◌, length}
use Rattle.inboxes.proofs.inbox_room.sender_rooms.Given as goal

abbrev pub invariant-loop-proxy : goal.invariant-loop-proxy
invariant-loop-proxy g l = length l.rooms.items ≡ l.proxy
