-- A turn of the loop puts the last entry that is left, and in the end all are put.
use Rattle.std.proofs.Common.{subst, rules}
use Rattle.metadata.proofs.TakenBack.{takes_put, takes_same}
use Rattle.metadata.proofs.WrittenEntries.{IsPuttingOver, putting_over_first, putting_over_next}
use Rattle.model.specs.Metadata.{Entry}
use Rattle.metadata.proofs.entry_map.EntryMap.put_each.Goals as goal

pub loop-key-init : goal.loop-key-init
loop-key-init c = record {
  puts = putting_over_first c.args.self.now c.args.puts c.into_iter-rest.result (search rules);
  takes = λ before takes. takes;
  order = λ order. order;
}

pub loop-key-preserved : goal.loop-key-preserved
loop-key-preserved c =
    let last : Entry = (c.in-Some.key, c.in-Some.row) in
    record {
      puts =
          putting_over_next c.args.self.now c.args.puts c.loop-key.self c.put_row.new.self last c.next_back.new.self c.in_ok-put_row.ensures.ok
          (subst (IsPuttingOver c.args.self.now c.args.puts c.loop-key.self) c.in-Some.ensures.steps c.loop-key.invariant.puts);
      takes = λ before takes.
          takes_put c.loop-key.displaced.items c.put_row.new.displaced.items before c.loop-key.self c.put_row.new.self c.in-Some.key c.in-Some.row c.put_row.ensures.was_in_order c.in_ok-put_row.ensures.displaced c.in_ok-put_row.ensures.ok
          (c.loop-key.invariant.takes before takes);
      order = λ order. c.put_row.ensures.order;
    }

pub returns-clause-ok : goal.returns-clause-ok
returns-clause-ok c = subst (IsPuttingOver c.args.self.now c.args.puts c.loop-key.self) c.in_default.ensures.steps.0 c.loop-key.invariant.puts

pub returns-clause-takes : goal.returns-clause-takes
returns-clause-takes c = c.loop-key.invariant.takes

pub returns-in_err-put_row-clause-takes : goal.returns-in_err-put_row-clause-takes
returns-in_err-put_row-clause-takes c = λ before takes.
    takes_same c.loop-key.displaced.items c.put_row.new.displaced.items before c.loop-key.self c.put_row.new.self c.in_err-put_row.ensures.none c.in_err-put_row.ensures.err (c.loop-key.invariant.takes before takes)
