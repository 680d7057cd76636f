-- One more move was carried out, or it failed.
use Rattle.std.proofs.Common.{arith, subst, sym, take}
use Rattle.agreed_ledger.specs.Sequencing.{SequencedView}
use Rattle.locked_resolvers.proofs.Lists.{got}
use Rattle.threads_lines.specs.Moves.{HaveMoved}
use Rattle.threads_lines.proofs.MoveLemmas.{one_more_moved}
use Rattle.threads_lines.proofs.cluster.move_all.Goals as goal

pub loop-one-preserved : goal.loop-one-preserved
loop-one-preserved g c =
    let l = c.loop-one in
    let k = l.one-index in
    let one = c.one-item.result in
    let at = got c.args.moves.now k one (omega arith) c.one-item.is in
    one_more_moved c.args.guard.now l.guard c.move_one.new.guard c.args.moves.now k one at l.invariant c.in_default.ensures.moved

pub returns-in-Err-clause-stopped : goal.returns-in-Err-clause-stopped
returns-in-Err-clause-stopped g c =
    let l = c.loop-one in
    let k = l.one-index in
    let one = c.one-item.result in
    record {
      place = k;
      failed = one;
      stands = got c.args.moves.now k one (omega arith) c.one-item.is;
      moved = subst (λ (v : SequencedView). HaveMoved c.args.guard.now (take k c.args.moves.now) v) (sym c.in-Err.ensures.unchanged) l.invariant;
      fault_is = c.in-Err.ensures.failed;
    }
