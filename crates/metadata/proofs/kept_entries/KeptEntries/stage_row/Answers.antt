-- What the row changes goes over what was changed before it.
use Rattle.std.proofs.Common.{◌∙◌, ap, ◌||◌, List}
use Rattle.model.specs.Metadata.{Entries}
use Rattle.metadata.specs.Overwrites.{is_listed, changes_of, cleared_keys}
use Rattle.metadata.proofs.PutEntries.{lock_staged, row_staged}
use Rattle.system_keys.specs.Keys.{Key}
use Rattle.metadata.proofs.kept_entries.KeptEntries.stage_row.Goals as goal

pub returns : goal.returns
returns c = λ now over.
    row_staged c.args.row.now c.args.staged.now.puts c.apply_states.new.self c.args.self.now now c.args.staged.now.cleared c.in_ok-cleared.cleared.items c.insert_all.new.self
    c.is_locked_after-locked.result c.as_slice-states.result.now (lock_staged c.args.staged.now.cleared c.args.staged.now.puts c.args.self.now now c.is_locked_after-locked.result c.is_locked_after-locked.ensures.value over) c.as_slice-states.ensures c.in_ok-apply_states.ensures
    (λ key. c.in_ok-cleared.ensures key ∙ ap (λ (entries : Entries). is_listed (cleared_keys entries (changes_of c.is_locked_after-locked.result c.as_slice-states.result.now)) key) c.self.view_is)
    (λ key. c.in_ok-insert_all.ensures key ∙ ap (λ (keys : List Key). is_listed keys key || is_listed c.args.staged.now.cleared key) c.deref.ensures.value)
    over
