use Rattle.std.proofs.Common.{refl}
use Rattle.scripts.proofs.ListLemmas.{count_members-members_view}
use Rattle.scripts.proofs.shaped.has_fields.Goals as goal

pub returns-in-Some : goal.returns-in-Some
returns-in-Some c = rw (← c.in-Some.ensures) (rw (count_members-members_view c.in-Some.members.now.entries, c.len.ensures.len) refl)
