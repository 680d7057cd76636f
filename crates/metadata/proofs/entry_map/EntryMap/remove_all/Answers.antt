-- A turn of the loop removes the entry at one key, and after the last no key is left.
use Rattle.std.proofs.Common.{subst, List}
use Rattle.system_keys.specs.Keys.{Key}
use Rattle.metadata.proofs.EntriesLeft.{AreRemoved, removed_next, all_removed}
use Rattle.metadata.proofs.entry_map.EntryMap.remove_all.Goals as goal

pub loop-key-preserved : goal.loop-key-preserved
loop-key-preserved c = (
  removed_next c.args.keys.now c.in-Some.key.now c.next.new.self c.args.self.now c.loop-key.self c.remove_key.new.self
      c.remove_key.ensures.values
      (subst (λ (left : List Key). AreRemoved c.args.keys.now left c.args.self.now c.loop-key.self) c.in-Some.ensures.steps c.loop-key.invariant.0),
  (λ order. c.remove_key.ensures.order),
)

pub returns : goal.returns
returns c = λ order.
    all_removed c.args.keys.now c.args.self.now c.loop-key.self order (c.loop-key.invariant.1 order)
    (subst (λ (left : List Key). AreRemoved c.args.keys.now left c.args.self.now c.loop-key.self) c.in-None.ensures.steps.0 c.loop-key.invariant.0)
