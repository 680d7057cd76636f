-- A turn of the loop removes the key of an entry.
use Rattle.std.proofs.Common.{subst}
use Rattle.metadata.proofs.KeySets.{AreLacked, lacked_next, all_lacked}
use Rattle.model.specs.Metadata.{Entries}
use Rattle.metadata.proofs.entry_map.EntryMap.keys_lacked.Goals as goal

pub loop-key-preserved : goal.loop-key-preserved
loop-key-preserved c =
    lacked_next c.args.self.now c.args.keys c.loop-key.keys c.remove.new.self (c.in-Some.key.now, c.in-Some.field-0-1.now) c.next.new.self
    c.remove.ensures
    (subst (λ (left : Entries). AreLacked c.args.self.now c.args.keys c.loop-key.keys left) c.in-Some.ensures.steps c.loop-key.invariant)

pub returns : goal.returns
returns c = all_lacked c.args.self.now c.args.keys c.loop-key.keys (subst (λ (left : Entries). AreLacked c.args.self.now c.args.keys c.loop-key.keys left) c.in-None.ensures.steps.0 c.loop-key.invariant)
