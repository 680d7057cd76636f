-- One request more has its records.
use Rattle.std.proofs.Common.{◌≡◌, ◌∙◌, sym, ap, subst, ◌++◌, List, length, arith}
use Rattle.std.specs.Vec.Iter.{into_iter_items}
use Rattle.facts.specs.Stretches.{Stretch}
use Rattle.model.specs.Records.{Record}
use Rattle.model.specs.Requests.{Request}
use Rattle.locked_resolvers.specs.Requests.{RequestView, IsRequestFor}
use Rattle.locked_cluster.specs.Begun.{with_records}
use Rattle.locked_cluster.proofs.ProxyRequests.{copy_popped, first_is_for, joined_next, rest_are_for}
use Rattle.locked_cluster.proofs.proxies.begun.requests_with_records.Goals as goal

pub of-requires-clause-is : goal.of-requires-clause-is
of-requires-clause-is g c =
    let records = c.args.records.now in
    let items = into_iter_items c.loop-one.one-iterator in
    let rest = into_iter_items c.next.new.self in
    let next = c.in-Some.ensures.steps.0 in
    let copy = copy_popped items rest c.in-Some.one c.loop-one.copies.items c.pop.new.self.items records c.in-Some-pop.copy next c.loop-one.invariant.copies c.in-Some-pop.ensures.items in
    let known = ap (λ (u : Stretch Record). u.known) copy.0 in
    subst (λ (rs : List Record). IsRequestFor g.N.Naming.cells.config (record { plain = c.in-Some.one; records = rs })) (sym known) (first_is_for g.N.Naming.cells.config records.known items rest c.in-Some.one next c.loop-one.invariant.are)

pub loop-one-preserved : goal.loop-one-preserved
loop-one-preserved g c =
    let records = c.args.records.now in
    let items = into_iter_items c.loop-one.one-iterator in
    let rest = into_iter_items c.next.new.self in
    let next = c.in-Some.ensures.steps.0 in
    let copy = copy_popped items rest c.in-Some.one c.loop-one.copies.items c.pop.new.self.items records c.in-Some-pop.copy next c.loop-one.invariant.copies c.in-Some-pop.ensures.items in
    let made : c.of.result ≡ record { plain = c.in-Some.one; records = records.known } = c.of.ensures ∙ ap (λ (u : Stretch Record). record { plain = c.in-Some.one; records = u.known }) copy.0 in
    let size = ap (λ (qs : List Request). length qs) next in
    record {
      joined = ap (λ (qs : List RequestView). qs ++ with_records records.known rest) c.push_reserved.ensures.items ∙ joined_next records.known c.loop-one.requests.items items rest c.args.plain.items c.in-Some.one c.of.result next made c.loop-one.invariant.joined;
      copies = copy.1;
      are = rest_are_for g.N.Naming.cells.config records.known items rest c.in-Some.one next c.loop-one.invariant.are;
      room = omega (arith, size, c.loop-one.invariant.room, c.push_reserved.ensures.len, c.push_reserved.ensures.capacity);
      count = omega (arith, size, c.loop-one.invariant.count, c.in-Some.ensures.steps.1);
    }
