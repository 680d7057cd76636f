-- The entry that is put, over no entries.
use Rattle.metadata.proofs.StagedChanges.{set_staged}
use Rattle.metadata.proofs.kept_entries.KeptEntries.stage_set.Goals as goal

pub returns-clause-staged : goal.returns-clause-staged
returns-clause-staged c =
    set_staged c.args.self.now c.set.new.self c.new-staged.result.puts c.new-staged.result.cleared c.args.key.now c.args.value.now c.new-staged.ensures.cleared c.new-staged.ensures.puts c.in_ok-set.ensures.ok
