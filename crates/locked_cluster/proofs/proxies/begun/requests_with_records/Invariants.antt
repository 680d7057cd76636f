-- The requests so far have records, and there are copies and room for those to come.
use Rattle.std.proofs.Common.{◌≡◌, ◌+◌, ◌≤◌, ◌++◌, length, replicate}
use Rattle.std.specs.Vec.{vec_len, vec_capacity}
use Rattle.std.specs.Vec.Iter.{into_iter_items, into_iter_len}
use Rattle.locked_cluster.specs.Begun.{AreRequestsFor, with_records}
use Rattle.locked_cluster.proofs.proxies.begun.requests_with_records.Given as goal

abbrev pub invariant-loop-one : goal.invariant-loop-one
invariant-loop-one g l =
    record {
      joined : l.requests.items ++ with_records l.records.known (into_iter_items l.one-iterator) ≡ with_records l.records.known l.fn.plain.items;
      copies : l.copies.items ≡ replicate (length (into_iter_items l.one-iterator)) l.records;
      are : AreRequestsFor g.N.Naming.cells.config l.records.known (into_iter_items l.one-iterator);
      room : vec_len l.requests + length (into_iter_items l.one-iterator) ≤ vec_capacity l.requests;
      count : into_iter_len l.one-iterator ≡ length (into_iter_items l.one-iterator);
    }
