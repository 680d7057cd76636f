-- A turn of the loop does one transaction.
use Rattle.std.proofs.Common.{◌≡◌, true, rules}
use Rattle.model.specs.Metadata.{after_state}
use Rattle.metadata.proofs.SetEntries.{one_done, same_servers_on}
use Rattle.metadata.proofs.kept_entries.KeptEntries.put_states.Goals as goal

pub loop-transaction-init : goal.loop-transaction-init
loop-transaction-init c = record {
  told = search rules;
  takes = λ before takes. takes;
  servers = search rules;
}

pub loop-transaction-preserved : goal.loop-transaction-preserved
loop-transaction-preserved c =
    let all : c.in_ok-put_state.field-0 ≡ true = search rules in
    record {
      told = one_done (after_state c.args.locked) c.args.states.now c.transaction-item.result c.loop-transaction.transaction-index c.loop-transaction.self c.put_state.new.self _ c.loop-transaction-test.true c.transaction-item.is (c.in_ok-put_state.ensures.ok all) c.loop-transaction.invariant.told;
      takes = λ before takes. c.put_state.ensures.takes before (c.loop-transaction.invariant.takes before takes);
      servers = same_servers_on c.args.self.now c.loop-transaction.self c.put_state.new.self c.loop-transaction.invariant.servers c.put_state.ensures.servers;
    }

pub returns-in_err-put_state-clause-takes : goal.returns-in_err-put_state-clause-takes
returns-in_err-put_state-clause-takes c = λ before takes. c.put_state.ensures.takes before (c.loop-transaction.invariant.takes before takes)

pub returns-then-not-branch-clause-takes : goal.returns-then-not-branch-clause-takes
returns-then-not-branch-clause-takes c = λ before takes. c.put_state.ensures.takes before (c.loop-transaction.invariant.takes before takes)
