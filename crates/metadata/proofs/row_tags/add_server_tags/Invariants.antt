-- The tags of the servers that are left, added to those so far, give what all give.
use Rattle.std.proofs.Common.{◌≡◌, drop, fold, flat_map}
use Rattle.std.specs.BTreeSet.{insert_key}
use Rattle.system_keys.specs.ListedTags.{tag_cmp}
use Rattle.metadata.specs.ServerTables.{tag_listed}
use Rattle.metadata.proofs.row_tags.add_server_tags.Given as goal

abbrev pub invariant-loop-number : goal.invariant-loop-number
invariant-loop-number l =
    fold (insert_key tag_cmp) l.tags (flat_map (tag_listed l.table.tags) (drop l.number l.servers))
    ≡ fold (insert_key tag_cmp) l.fn.tags (flat_map (tag_listed l.table.tags) l.servers)
