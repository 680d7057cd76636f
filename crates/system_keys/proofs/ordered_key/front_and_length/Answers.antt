-- The array holds the front of the key, and then the count.
use Rattle.std.proofs.Common.{◌∙◌, ap, List, ℕ, ◌++◌, drop, set, replicate, arith}
use Rattle.system_keys.proofs.OrderedKeys.{front_is}
use Rattle.system_keys.proofs.ordered_key.front_and_length.Goals as goal

pub returns-clause-front : goal.returns-clause-front
returns-clause-front c =
    let key = c.args.bytes.now in
    let count = c.min-count.result in
    ap (λ (front : List ℕ). set (front ++ drop count (replicate 16 0)) 15 c.min.result) c.copy_from_slice.ensures.after
    ∙ front_is 15 0 count c.min.result key c.min-count.ensures (c.min.ensures ∙ omega arith)
