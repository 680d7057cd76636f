-- A needless owner is passed.
use Rattle.std.proofs.Common.{◌≡◌, ◌∙◌, ◌+◌, ◌-◌, sym, ap, true, drop, length, arith}
use Rattle.dated_owners.specs.LaterOwners.{is_first_needless}
use Rattle.dated_owners.proofs.LaterOwnerLaws.{needed_next, all_taken}
use Rattle.dated_owners.proofs.later_owners.count_needless.Goals as goal

pub loop-count-preserved : goal.loop-count-preserved
loop-count-preserved c =
    let later = c.args.owners.now in
    let i = c.loop-count.count in
    let here : is_first_needless c.args.oldest (drop i later) ≡ true = ap (is_first_needless c.args.oldest) (sym (all_taken later i (length later - i) (omega arith))) ∙ sym c.if-not-is_first_needless.ensures in
    needed_next c.args.oldest later i (i + 1) (omega arith) here c.loop-count.invariant
