-- A turn of the loop puts the owners of one start.
use Rattle.std.proofs.Common.{ap, length, arith}
use Rattle.std.specs.Vec.Iter.{into_iter_items}
use Rattle.dated_owners.specs.Starts.{put_all_owners}
use Rattle.dated_owners.proofs.AddedOwners.{next_put, all_put, nothing_left}
use Rattle.dated_owners.proofs.pieces.put_all_owners.Goals as goal

pub loop-key-preserved : goal.loop-key-preserved
loop-key-preserved c =
    let next = c.in-Some.ensures.steps.0 in
    let size = ap length next in
    record {
      put = λ there.
          next_put (into_iter_items c.loop-key.key-iterator) (into_iter_items c.next.new.self) c.in-Some.key c.in-Some.owners (put_all_owners c.args.pieces.now.entries c.args.grown.items)
          c.loop-key.pieces.entries c.put.new.pieces.entries next c.put.ensures (c.loop-key.invariant.put there);
      count = omega (arith, size, c.loop-key.invariant.count, c.in-Some.ensures.steps.1);
    }

pub returns : goal.returns
returns c = λ there.
    all_put (into_iter_items c.loop-key.key-iterator) (put_all_owners c.args.pieces.now.entries c.args.grown.items) c.loop-key.pieces.entries (nothing_left _ (omega (arith, c.in-None.ensures.steps, c.loop-key.invariant.count))) (c.loop-key.invariant.put there)
