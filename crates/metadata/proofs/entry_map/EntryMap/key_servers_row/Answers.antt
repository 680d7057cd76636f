-- The row at the place is found among those that are left.
use Rattle.std.proofs.Common.{◌≡◌, ◌∙◌, ap, sym, true, option_map, slice_get, rules, arith}
use Rattle.model.specs.Metadata.{Entry, Entries, is_key_servers, key_servers_entries}
use Rattle.metadata.proofs.KeptTags.{row_at}
use Rattle.metadata.proofs.entry_map.EntryMap.key_servers_row.Goals as goal

pub loop-key-init : goal.loop-key-init
loop-key-init c = ap (λ (rows : Entries). slice_get (key_servers_entries rows) c.args.place) (c.into_iter-key-iterator.ensures.into_iter_gives ∙ c.iter-key-items.ensures.entries)

pub returns-then-before-eq0 : goal.returns-then-before-eq0
returns-then-before-eq0 c =
    let entry : Entry = (c.in-Some.key.now, c.in-Some.row.now) in
    let own : is_key_servers entry ≡ true = search rules in
    ap (option_map (λ (row : Entry). row.1))
    (row_at entry c.next.new.self c.loop-key.before _ own (search (rules, arith))
    (ap (λ (es : Entries). slice_get (key_servers_entries es) c.loop-key.before) (sym c.in-Some.ensures.steps) ∙ c.loop-key.invariant))
