-- The keys do not run backwards; and the entries of the map between the two are those that a range of them holds.
use Rattle.std.proofs.Common.{◌≡◌, ◌∙◌, ◌++◌, ap, filter, List}
use Rattle.system_keys.specs.Keys.{Key, holds}
use Rattle.model.specs.Metadata.{Entry, Entries}
use Rattle.std.specs.Map.{keys_of}
use Rattle.std.specs.declared.ops.Bound.TheVariants.{Included, Excluded}
use Rattle.std.specs.BTreeMap.Range.{entries_between}
use Rattle.metadata.proofs.RangeEntries.{below_forward, keys_held}
use Rattle.metadata.proofs.KeyValues.{key_cmp}
use Rattle.metadata.proofs.entry_map.EntryMap.list_keys_between.Goals as goal

pub range-key-items-requires : goal.range-key-items-requires
range-key-items-requires c = rw (c.in_ok-begin.ensures, c.in_ok-end.ensures) (below_forward c.args.begin.now c.args.end.now c.requires)

pub loop-key-init : goal.loop-key-init
loop-key-init c =
    let is : c.into_iter-key-iterator.result ≡ entries_between key_cmp (Included c.in_ok-begin.begin) (Excluded c.in_ok-end.end) c.self.inside.values.entries = c.into_iter-key-iterator.ensures.into_iter_gives ∙ c.range-key-items.ensures.between tt in
    ap (λ es. c.args.keys.now.items ++ keys_of es) is
    ∙ ap (λ (more : List Key). c.args.keys.now.items ++ more) (keys_held c.self.inside.values.entries c.in_ok-begin.begin c.in_ok-end.end (record { begin = c.args.begin.now; end = c.args.end.now }) c.in_ok-begin.ensures c.in_ok-end.ensures)
    ∙ ap (λ (entries : Entries). c.args.keys.now.items ++ keys_of (filter (λ (row : Entry). holds (record { begin = c.args.begin.now; end = c.args.end.now }) row.0) entries)) c.self.view_is
