-- The entries at the keys before give no server a tag.
use Rattle.std.proofs.Common.{◌≡◌}
use Rattle.metadata.specs.CachedTags.{may_tag_some}
use Rattle.metadata.proofs.entry_map.EntryMap.may_tag_some.Given as goal

abbrev pub invariant-loop-key : goal.invariant-loop-key
invariant-loop-key l = may_tag_some l.self l.key-iterator ≡ may_tag_some l.self l.keys
