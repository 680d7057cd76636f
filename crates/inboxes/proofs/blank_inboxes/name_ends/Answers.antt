-- One end more has its name.
use Rattle.std.proofs.Common.{◌≡◌, ◌∙◌, ◌+◌, [], ◌∷◌, ℕ, List, sym, ap, length, length-append, drop, arith}
use Rattle.std.specs.Vec.Iter.{into_iter_items}
use Rattle.inboxes.specs.Places.{Place}
use Rattle.inboxes.proofs.Each.{drop_next, each_grown}
use Rattle.inboxes.proofs.blank_inboxes.name_ends.Goals as goal

pub loop-end-preserved : goal.loop-end-preserved
loop-end-preserved g c =
    let places = g.M.Channels.places in
    let ends = c.loop-end.ends.items in
    let done = length ends in
    let next = c.in-Some.ensures.steps.0 in
    let count = ap (λ (ps : List Place). length ps) next in
    let rest = into_iter_items c.next.new.self in
    let after = c.push_reserved.new.self.items in
    let grown = c.push_reserved.ensures.items in
    let size : c.len-resolver.result ≡ done = omega (arith, c.len-resolver.ensures, c.loop-end.ends.ok) in
    let (at, later) = drop_next places done c.in-Some.end rest (sym c.loop-end.invariant.left ∙ next) in
    let more : length after ≡ done + 1 = ap (λ (xs : List ℕ). length xs) grown ∙ length-append ends (c.named.result ∷ []) in
    record {
      ends = each_grown (λ (r : ℕ). r) ends after c.named.result c.loop-end.invariant.ends (c.named.ensures ∙ size) grown;
      left = sym later ∙ ap (λ (n : ℕ). drop n places) (sym more);
      all = omega (arith, count, more, c.loop-end.invariant.all);
      room = omega (arith, c.loop-end.invariant.room, c.push_reserved.ensures.capacity);
      count = omega (arith, count, c.loop-end.invariant.count, c.in-Some.ensures.steps.1);
    }
