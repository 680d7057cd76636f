-- One more change is put in, and after the last one all are.
use Rattle.std.proofs.Common.{◌≡◌, ◌∙◌, ◌<◌, refl, sym, ap, List, length, length-set, arith}
use Rattle.std.specs.Vec.Iter.{into_iter_items}
use Rattle.system_keys.specs.declared.change.Change.{Change}
use Rattle.proxy_state.proofs.TakenChanges.{put_next, put_last}
use Rattle.proxy_state.proofs.outcomes.put_changes_from.Goals as goal

pub loop-change-preserved : goal.loop-change-preserved
loop-change-preserved c =
    let now = c.loop-change.tagged.items in
    let left = into_iter_items c.loop-change.change-iterator in
    let split = c.in-Some.ensures.steps.0 in
    let size = ap (λ (changes : List Change). length changes) split in
    let within : c.loop-change.place < length now = omega (arith, size, c.loop-change.invariant.place, c.loop-change.invariant.count, c.requires) in
    record {
      put = put_next now _ c.loop-change.place _ c.index_mut.result.now c.in-Some.change left (into_iter_items c.next.new.self) _ within c.index_mut.ensures.value refl refl split c.loop-change.invariant.put;
      place = omega (arith, size, c.loop-change.invariant.place);
      count = length-set now c.loop-change.place _ ∙ c.loop-change.invariant.count;
      left = omega (arith, size, c.loop-change.invariant.left, c.in-Some.ensures.steps.1);
    }

pub returns : goal.returns
returns c =
    let left = into_iter_items c.loop-change.change-iterator in
    let none : length left ≡ 0 = sym c.loop-change.invariant.left ∙ c.in-None.ensures.steps.0 in
    record {
      place = omega (arith, none, c.loop-change.invariant.place);
      count = c.loop-change.invariant.count;
      tagged = put_last c.loop-change.tagged.items c.loop-change.place left _ none c.loop-change.invariant.put;
    }
