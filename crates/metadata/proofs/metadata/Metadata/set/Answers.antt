-- What was staged is started and finished.
use Rattle.std.proofs.Common.{subst}
use Rattle.system_keys.specs.declared.change.Change.TheVariants.{Set}
use Rattle.model.specs.Metadata.{Entries, IsInOrder, after_change}
use Rattle.model.proofs.Metadata.Entries.{changed_in_order}
use Rattle.metadata.specs.Overwrites.{IsOverwritten}
use Rattle.metadata.proofs.metadata.Metadata.set.Goals as goal

pub returns-clause-ok : goal.returns-clause-ok
returns-clause-ok c =
    let change = Set c.args.key.now c.args.value.now in
    c.finish_rows.ensures c.args.self.now (after_change c.args.self.now change)
    (c.in_ok-started.ensures.ok (after_change c.args.self.now change) (changed_in_order c.args.self.now change (subst IsInOrder c.self.view_is c.stage_set.ensures.order))
    (subst (λ (entries : Entries). IsOverwritten c.in_ok-staged.staged.cleared c.in_ok-staged.staged.puts entries (after_change entries change)) c.self.view_is c.in_ok-staged.ensures.staged))
