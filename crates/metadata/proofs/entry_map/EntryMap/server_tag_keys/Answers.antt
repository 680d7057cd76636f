-- A turn of the loop adds the key of the entry, if it is of a server.
use Rattle.std.proofs.Common.{subst, rules}
use Rattle.metadata.proofs.ServerTables.{AreKeysSoFar, next_key, key_passed, all_keys}
use Rattle.model.specs.Metadata.{Entries}
use Rattle.metadata.proofs.entry_map.EntryMap.server_tag_keys.Goals as goal

pub loop-key-preserved-in-Continue-1 : goal.loop-key-preserved-in-Continue-1
loop-key-preserved-in-Continue-1 c =
    next_key c.args.self.now (c.in-Some.key.now, c.in-Some.field-0-1.now) c.next.new.self c.loop-key.keys c.insert.new.self (search rules)
    c.in_ok-insert.ensures
    (subst (λ (es : Entries). AreKeysSoFar c.args.self.now es c.loop-key.keys) c.in-Some.ensures.steps c.loop-key.invariant)

pub loop-key-preserved : goal.loop-key-preserved
loop-key-preserved c =
    key_passed c.args.self.now (c.in-Some.key.now, c.in-Some.field-0-1.now) c.next.new.self c.loop-key.keys
    (search rules)
    (subst (λ (es : Entries). AreKeysSoFar c.args.self.now es c.loop-key.keys) c.in-Some.ensures.steps c.loop-key.invariant)

pub returns : goal.returns
returns c = all_keys c.args.self.now c.loop-key.keys (subst (λ (es : Entries). AreKeysSoFar c.args.self.now es c.loop-key.keys) c.in-None.ensures.steps.0 c.loop-key.invariant)
