-- What the rows put, and then what the last one puts.
use Rattle.std.proofs.Common.{◌≡◌, ◌∙◌, ap, true, fold, Bool, List, rules}
use Rattle.model.specs.declared.journal.StateTxn.{StateTxn}
use Rattle.model.specs.Metadata.{Entries, after_state, after_journal_row, is_locked}
use Rattle.metadata.proofs.SetEntries.{same_servers_on}
use Rattle.metadata.proofs.kept_entries.KeptEntries.put_sets.Goals as goal

pub returns-clause-ok : goal.returns-clause-ok
returns-clause-ok c =
    let rows : c.in_ok-put_rows.field-0 ≡ true = search rules in
    let states : c.in_ok-put_states.field-0 ≡ true = search rules in
    let now = c.put_rows.new.self in
    c.in_ok-put_states.ensures.ok states
    ∙ ap (λ (locked : Bool). fold (after_state locked) now c.as_slice.result.now) c.is_locked-locked.ensures
    ∙ ap (λ (list : List StateTxn). fold (after_state (is_locked now)) now list) c.as_slice.ensures
    ∙ ap (λ (entries : Entries). after_journal_row entries c.args.last.now) (c.in_ok-put_rows.ensures.ok rows)

pub returns-clause-locked : goal.returns-clause-locked
returns-clause-locked c =
    let rows : c.in_ok-put_rows.field-0 ≡ true = search rules in
    c.is_locked-locked.ensures ∙ ap is_locked (c.in_ok-put_rows.ensures.ok rows)

pub returns-clause-takes : goal.returns-clause-takes
returns-clause-takes c = λ before takes. c.put_states.ensures.takes before (c.put_rows.ensures.takes before takes)

pub returns-clause-servers : goal.returns-clause-servers
returns-clause-servers c = same_servers_on c.args.self.now c.put_rows.new.self c.put_states.new.self c.put_rows.ensures.servers c.put_states.ensures.servers
