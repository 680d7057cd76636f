-- A kept entry leaves the entries in order, and all of their keys kept.
use Rattle.std.proofs.Common.{◌≡◌, ◌∙◌, ap, true}
use Rattle.system_keys.specs.Families.{is_kept_key}
use Rattle.metadata.proofs.KeptInOrder.{put_kept_in_order}
use Rattle.metadata.proofs.kept_entries.KeptEntries.put_kept.Goals as goal

pub invariant_of-self-2 : goal.invariant_of-self-2
invariant_of-self-2 c =
    let kept : is_kept_key c.in_ok-own_key.own_key ≡ true = ap is_kept_key c.in_ok-own_key.ensures ∙ c.requires in
    put_kept_in_order c.self.inside.entries c.put_row.new.self c.in_ok-own_key.own_key c.unread-row.result c.self.invariant kept c.in_ok-put_row.ensures.ok
