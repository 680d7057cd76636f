-- The key right after is inside the key space exactly if the key is.
use Rattle.std.proofs.Common.{◌∙◌, sym, ap₂, ◌+◌, cond, not, ◌&&◌, nat_eq, ℕ}
use Rattle.share_judge.proofs.OneKey.{next_inner}
use Rattle.share_judge.proofs.CountOver.{two_changes}
use Rattle.share_judge.proofs.key_map.count_changes.Goals as goal

pub returns-clause-changes : goal.returns-clause-changes
returns-clause-changes c =
    ap₂ (λ (x y : ℕ). x + y)
    (c.count_change-begun.ensures.change ∙ (λ i. cond (c.is_inner_boundary.ensures i && not (nat_eq (c.unless_forgotten-at.ensures i) (c.unless_forgotten-before.ensures i))) 1 0))
    (c.count_change.ensures.change ∙ (λ i. cond ((c.is_key_below.ensures ∙ sym (next_inner c.args.key.now)) i && not (nat_eq (c.unless_forgotten-after.ensures i) (c.unless_forgotten-at.ensures i))) 1 0))
    ∙ sym (two_changes c.args.dropped c.args.key.now c.args.before c.args.at c.args.after)
