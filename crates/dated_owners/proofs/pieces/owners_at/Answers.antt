-- The last piece that begins up to the key has its owners.
use Rattle.std.proofs.Common.{◌∙◌, sym, ap, []}
use Rattle.dated_owners.specs.Starts.{last_value}
use Rattle.dated_owners.proofs.KeyStarts.{rising_entries, value_is_last, last_entry}
use Rattle.dated_owners.proofs.pieces.owners_at.Goals as goal

pub returns-in-Some : goal.returns-in-Some
returns-in-Some c =
    c.as_slice.ensures
    ∙ sym (last_entry [] c.next_back.new.self c.in-Some.field-0-0.now c.in-Some.owners.now)
    ∙ sym (ap (last_value []) c.in-Some.ensures.steps)
    ∙ ap (last_value []) (c.range.ensures.between tt)
    ∙ sym (value_is_last [] c.args.pieces.now.entries c.args.key.now (rising_entries c.args.pieces.now.entries c.range.ensures.ordered))

pub returns-in-None : goal.returns-in-None
returns-in-None c =
    sym (ap (last_value []) c.in-None.ensures.steps.0)
    ∙ ap (last_value []) (c.range.ensures.between tt)
    ∙ sym (value_is_last [] c.args.pieces.now.entries c.args.key.now (rising_entries c.args.pieces.now.entries c.range.ensures.ordered))
