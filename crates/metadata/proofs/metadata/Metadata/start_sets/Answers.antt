-- What is put at once leaves nothing to remove, and the servers as they were.
use Rattle.std.proofs.Common.{◌≡◌, subst, rules}
use Rattle.model.specs.Metadata.{Entries, after_journal_row}
use Rattle.metadata.specs.Started.{Started, IsStarted, after_rows}
use Rattle.metadata.proofs.SetEntries.{started_at_once}
use Rattle.metadata.proofs.TakenBack.{takes_nothing}
use Rattle.metadata.proofs.metadata.Metadata.start_sets.Goals as goal

pub returns-in-Ok-Some-clause-ok : goal.returns-in-Ok-Some-clause-ok
returns-in-Ok-Some-clause-ok c =
    let started : Started = record { removed = c.new.result; displaced = c.put_sets.new.displaced.items; servers = c.new-in-Ok-Some-2.result; locked = c.in-Ok-Some.locked } in
    let after = after_journal_row (after_rows c.self.inside.entries c.args.rows.now) c.args.last.now in
    let is : c.put_sets.new.self ≡ after = search rules in
    subst (λ (entries : Entries). IsStarted started entries (after_journal_row (after_rows entries c.args.rows.now) c.args.last.now) c.put_sets.new.self) c.self.view_is
    (started_at_once started c.self.inside.entries after c.put_sets.new.self c.new.ensures c.new-in-Ok-Some-2.ensures is
    (c.put_sets.ensures.takes c.self.inside.entries (takes_nothing c.new-displaced.result.items c.self.inside.entries c.new-displaced.ensures.items))
    c.map.ensures.order c.map.ensures.kept c.put_sets.ensures.servers)
