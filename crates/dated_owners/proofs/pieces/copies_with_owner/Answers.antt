-- One piece more.
use Rattle.std.proofs.Common.{◌∙◌, ◌++◌, ap}
use Rattle.dated_owners.specs.Starts.{with_values}
use Rattle.dated_owners.proofs.AskedStarts.{between_changed}
use Rattle.dated_owners.proofs.AddedOwners.{more, next_grown}
use Rattle.dated_owners.proofs.pieces.copies_with_owner.Goals as goal

pub loop-key-init : goal.loop-key-init
loop-key-init c =
    ap (λ xs. xs ++ with_values (more c.args.owner) c.into_iter-key-iterator.result) c.new-grown.ensures.items
    ∙ ap (with_values (more c.args.owner)) (c.into_iter-key-iterator.ensures.into_iter_gives ∙ c.range-key-items.ensures.between tt)
    ∙ between_changed (more c.args.owner) c.args.pieces.now.entries (record { begin = c.args.begin.now; end = c.args.end.now })

pub loop-key-preserved : goal.loop-key-preserved
loop-key-preserved c =
    next_grown c.args.owner c.loop-key.grown.items c.push.new.self.items c.in_ok-key.key c.in-Some.key.now c.in_ok-more.more c.in-Some.owners.now c.loop-key.key-iterator c.next.new.self _
    c.in_ok-push.ensures.items c.in_ok-key.ensures.copy (c.in_ok-more.ensures ∙ ap (more c.args.owner) c.as_slice.ensures) c.in-Some.ensures.steps c.loop-key.invariant
