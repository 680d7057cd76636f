-- In any order, the ranges hold the keys that the changes clear.
use Rattle.std.proofs.lemmas.Result.{IfOk-weaker}
use Rattle.metadata.specs.Overwrites.{changes_of}
use Rattle.metadata.proofs.HeldKeys.{held_keys_cleared}
use Rattle.metadata.proofs.applying.cleared_keys.Goals as goal

pub returns : goal.returns
returns c =
    IfOk-weaker c.keys_in_any.result _ _
    (λ keys listed.
    held_keys_cleared c.args.entries.now (changes_of c.args.locked c.args.transactions.now) c.in_ok-ranges.ranges.items c.sort_unstable_by.new.self.items c.deref.result.now keys.items
    c.in_ok-ranges.ensures c.sort_unstable_by.ensures.permutation c.deref.ensures.value listed)
    c.keys_in_any.ensures
