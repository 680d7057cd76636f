-- A turn of the loop puts what one row sets.
use Rattle.std.proofs.Common.{◌≡◌, ◌∙◌, ap, true, fold, Bool, List, rules}
use Rattle.model.specs.declared.journal.StateTxn.{StateTxn}
use Rattle.model.specs.Metadata.{after_state, after_journal_row, is_locked}
use Rattle.metadata.proofs.SetEntries.{one_done, same_servers_on}
use Rattle.metadata.proofs.kept_entries.KeptEntries.put_rows.Goals as goal

pub loop-row-init : goal.loop-row-init
loop-row-init c = record {
  told = search rules;
  takes = λ before takes. takes;
  servers = search rules;
}

pub loop-row-preserved : goal.loop-row-preserved
loop-row-preserved c =
    let all : c.in_ok-put_states.field-0 ≡ true = search rules in
    let now = c.loop-row.self in
    let done : c.put_states.new.self ≡ after_journal_row now c.row-item.result =
    c.in_ok-put_states.ensures.ok all
    ∙ ap (λ (locked : Bool). fold (after_state locked) now c.as_slice.result.now) c.is_locked-locked.ensures
    ∙ ap (λ (list : List StateTxn). fold (after_state (is_locked now)) now list) c.as_slice.ensures in
    record {
      told = one_done after_journal_row c.args.rows.now c.row-item.result c.loop-row.row-index now c.put_states.new.self _ c.loop-row-test.true c.row-item.is done c.loop-row.invariant.told;
      takes = λ before takes. c.put_states.ensures.takes before (c.loop-row.invariant.takes before takes);
      servers = same_servers_on c.args.self.now now c.put_states.new.self c.loop-row.invariant.servers c.put_states.ensures.servers;
    }

pub returns-in_err-put_states-clause-takes : goal.returns-in_err-put_states-clause-takes
returns-in_err-put_states-clause-takes c = λ before takes. c.put_states.ensures.takes before (c.loop-row.invariant.takes before takes)

pub returns-then-not-branch-clause-takes : goal.returns-then-not-branch-clause-takes
returns-then-not-branch-clause-takes c = λ before takes. c.put_states.ensures.takes before (c.loop-row.invariant.takes before takes)
