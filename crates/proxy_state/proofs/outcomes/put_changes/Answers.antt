-- The changes of one more transaction are put in, and after the last one all are.
use Rattle.std.proofs.Common.{◌∙◌, ◌+◌, ◌<◌, refl, sym, ap, List, length, drop, arith}
use Rattle.std.specs.Vec.Iter.{into_iter_items}
use Rattle.model.specs.Transactions.{StampedTransaction}
use Rattle.proxy_state.proofs.TakenChanges.{next_changes, room_for, put_run, put_all}
use Rattle.proxy_state.proofs.outcomes.put_changes.Goals as goal

pub put_changes_from-first-requires : goal.put_changes_from-first-requires
put_changes_from-first-requires c =
    let outcomes = c.args.outcomes.now in
    let number = c.loop-transaction.number in
    let rest = into_iter_items c.next.new.self in
    let size = ap (λ (ts : List StampedTransaction). length ts) c.in-Some.ensures.steps.0 in
    let within : number < length outcomes = omega (arith, size, c.loop-transaction.invariant.numbers, c.requires.outcomes) in
    let split = next_changes _ rest c.in-Some.transaction outcomes number (number + 1) _ c.changes_if_committed-changes.result c.in-Some.ensures.steps.0 within c.changes_if_committed-changes.ensures refl in
    (room_for _ _ _ c.loop-transaction.first (length c.loop-transaction.tagged.items) split c.loop-transaction.invariant.room).0

pub loop-transaction-preserved : goal.loop-transaction-preserved
loop-transaction-preserved c =
    let outcomes = c.args.outcomes.now in
    let number = c.loop-transaction.number in
    let rest = into_iter_items c.next.new.self in
    let size = ap (λ (ts : List StampedTransaction). length ts) c.in-Some.ensures.steps.0 in
    let within : number < length outcomes = omega (arith, size, c.loop-transaction.invariant.numbers, c.requires.outcomes) in
    let split = next_changes _ rest c.in-Some.transaction outcomes number (number + 1) _ c.changes_if_committed-changes.result c.in-Some.ensures.steps.0 within c.changes_if_committed-changes.ensures refl in
    let fits = room_for _ _ _ c.loop-transaction.first (length c.loop-transaction.tagged.items) split c.loop-transaction.invariant.room in
    record {
      put = put_run c.loop-transaction.tagged.items c.put_changes_from-first.new.tagged.items c.loop-transaction.first c.put_changes_from-first.result _ _ _ _ fits.0 c.put_changes_from-first.ensures.place c.put_changes_from-first.ensures.tagged split c.loop-transaction.invariant.put;
      room = omega (arith, fits.1, c.put_changes_from-first.ensures.place, c.put_changes_from-first.ensures.count);
      numbers = omega (arith, size, c.loop-transaction.invariant.numbers);
      left = omega (arith, size, c.loop-transaction.invariant.left, c.in-Some.ensures.steps.1);
    }

pub returns : goal.returns
returns c =
    put_all c.loop-transaction.tagged.items c.loop-transaction.first (into_iter_items c.loop-transaction.transaction-iterator) (drop c.loop-transaction.number c.args.outcomes.now) _
    (sym c.loop-transaction.invariant.left ∙ c.in-None.ensures.steps.0) c.loop-transaction.invariant.put
