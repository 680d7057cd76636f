-- A turn of the loop does one change.
use Rattle.std.proofs.Common.{◌≡◌, true, rules}
use Rattle.model.specs.Metadata.{after_change}
use Rattle.metadata.proofs.SetEntries.{one_done, same_servers_on}
use Rattle.metadata.proofs.kept_entries.KeptEntries.put_changes.Goals as goal

pub loop-change-init : goal.loop-change-init
loop-change-init c = record {
  told = search rules;
  takes = λ before takes. takes;
  servers = search rules;
}

pub loop-change-preserved : goal.loop-change-preserved
loop-change-preserved c =
    let all : c.in_ok-put_change.field-0 ≡ true = search rules in
    record {
      told = one_done after_change c.args.changes.now c.change-item.result c.loop-change.change-index c.loop-change.self c.put_change.new.self _ c.loop-change-test.true c.change-item.is (c.in_ok-put_change.ensures.ok all) c.loop-change.invariant.told;
      takes = λ before takes. c.put_change.ensures.takes before (c.loop-change.invariant.takes before takes);
      servers = same_servers_on c.args.self.now c.loop-change.self c.put_change.new.self c.loop-change.invariant.servers c.put_change.ensures.servers;
    }

pub returns-in_err-put_change-clause-takes : goal.returns-in_err-put_change-clause-takes
returns-in_err-put_change-clause-takes c = λ before takes. c.put_change.ensures.takes before (c.loop-change.invariant.takes before takes)

pub returns-then-not-branch-clause-takes : goal.returns-then-not-branch-clause-takes
returns-then-not-branch-clause-takes c = λ before takes. c.put_change.ensures.takes before (c.loop-change.invariant.takes before takes)
