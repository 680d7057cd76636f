-- A range begins below its end.
use Rattle.system_keys.proofs.KeyLaws.{begins_below}
use Rattle.metadata.proofs.entry_map.EntryMap.list_keys_inside.Goals as goal

pub list_keys_between-requires : goal.list_keys_between-requires
list_keys_between-requires c = rw (c.begin.ensures.value, c.end.ensures.value) (begins_below c.args.range.now.begin c.args.range.now.end c.begin.ensures.kept)
