-- One proxy more has its side.
use Rattle.std.proofs.Common.{◌≡◌, ◌∙◌, ◌+◌, [], ◌∷◌, ℕ, List, sym, ap, subst, length, length-append, drop, arith}
use Rattle.std.specs.Vec.Iter.{into_iter_items}
use Rattle.inboxes.specs.Blanks.{BlankSendersView, IsFreshSide}
use Rattle.inboxes.specs.Ends.{ProxyView}
use Rattle.inboxes.proofs.Each.{drop_next, sides_grown}
use Rattle.inboxes.proofs.blank_inboxes.name_senders.Goals as goal

pub name_senders_of_proxy-requires-clause-places : goal.name_senders_of_proxy-requires-clause-places
name_senders_of_proxy-requires-clause-places g c =
    let rows = c.args.rows.items in
    let done = length c.loop-row.sides.items in
    let rest = into_iter_items c.next.new.self in
    let (at, later) = drop_next rows done c.in-Some.row rest (sym c.loop-row.invariant.left ∙ c.in-Some.ensures.steps.0) in
    ap (λ (r : BlankSendersView). r.places) (c.requires.rows.1 done c.in-Some.row at)

pub name_senders_of_proxy-requires-clause-proxy : goal.name_senders_of_proxy-requires-clause-proxy
name_senders_of_proxy-requires-clause-proxy g c =
    let rows = c.args.rows.items in
    let done = length c.loop-row.sides.items in
    let rest = into_iter_items c.next.new.self in
    let (at, later) = drop_next rows done c.in-Some.row rest (sym c.loop-row.invariant.left ∙ c.in-Some.ensures.steps.0) in
    let is = ap (λ (r : BlankSendersView). r.proxy) (c.requires.rows.1 done c.in-Some.row at) in
    let count = ap (λ (rs : List BlankSendersView). length rs) c.in-Some.ensures.steps.0 in
    omega (arith, is, count, c.loop-row.invariant.all)

pub loop-row-preserved : goal.loop-row-preserved
loop-row-preserved g c =
    let resolvers = g.N.Naming.cells.config.resolvers in
    let rows = c.args.rows.items in
    let sides = c.loop-row.sides.items in
    let done = length sides in
    let next = c.in-Some.ensures.steps.0 in
    let count = ap (λ (rs : List BlankSendersView). length rs) next in
    let rest = into_iter_items c.next.new.self in
    let after = c.push_reserved.new.self.items in
    let grown = c.push_reserved.ensures.items in
    let (at, later) = drop_next rows done c.in-Some.row rest (sym c.loop-row.invariant.left ∙ next) in
    let side =
    subst (λ (p : ℕ). IsFreshSide p resolvers c.name_senders_of_proxy.result) (ap (λ (r : BlankSendersView). r.proxy) (c.requires.rows.1 done c.in-Some.row at)) c.name_senders_of_proxy.ensures in
    let more : length after ≡ done + 1 = ap (λ (xs : List ProxyView). length xs) grown ∙ length-append sides (c.name_senders_of_proxy.result ∷ []) in
    record {
      sides = sides_grown resolvers sides after c.name_senders_of_proxy.result c.loop-row.invariant.sides side grown;
      left = sym later ∙ ap (λ (n : ℕ). drop n rows) (sym more);
      rooms = omega (arith, count, c.loop-row.invariant.rooms, c.in-Some-pop.ensures.cases, c.loop-row.rooms.ok, c.pop.new.self.ok);
      all = omega (arith, count, more, c.loop-row.invariant.all);
      room = omega (arith, c.loop-row.invariant.room, c.push_reserved.ensures.capacity);
      count = omega (arith, count, c.loop-row.invariant.count, c.in-Some.ensures.steps.1);
    }
