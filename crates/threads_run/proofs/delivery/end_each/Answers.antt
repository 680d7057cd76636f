-- One more proxy has ended.
use Rattle.std.proofs.Common.{◌≡◌, ◌∙◌, ◌+◌, ◌++◌, [], ◌∷◌, ℕ, List, sym, ap, length, map, length-append, append-nil, append_assoc, arith}
use Rattle.std.proofs.lemmas.List.{map-append, nil_from_length}
use Rattle.std.specs.Vec.Iter.{into_iter_items}
use Rattle.inboxes.specs.Ends.{ProxyView}
use Rattle.threads_run.specs.Delivered.{proxy_of}
use Rattle.threads_run.proofs.delivery.end_each.Goals as goal

pub push_reserved-requires : goal.push_reserved-requires
push_reserved-requires g c =
    let l = c.loop-one in
    let size = ap (λ (ps : List ℕ). length ps) c.in-Some.ensures.steps.0 in
    omega (arith, size, l.invariant.all, l.invariant.room)

pub loop-one-preserved : goal.loop-one-preserved
loop-one-preserved g c =
    let l = c.loop-one in
    let one = c.in-Some.one in
    let next = c.in-Some.ensures.steps.0 in
    let size = ap (λ (ps : List ℕ). length ps) next in
    let grown = c.push_reserved.ensures.items in
    let later = into_iter_items c.next.new.self in
    let more : length c.push_reserved.new.self.items ≡ length l.sides.items + 1 = ap (λ (sides : List ProxyView). length sides) grown ∙ length-append l.sides.items (c.of.result ∷ []) in
    record {
      all = omega (arith, size, more, l.invariant.all);
      room = omega (arith, l.invariant.room, c.push_reserved.ensures.capacity);
      count = omega (arith, size, l.invariant.count, c.in-Some.ensures.steps.1);
      numbers = ap (λ (sides : List ProxyView). map proxy_of sides ++ later) grown
          ∙ ap (λ (ps : List ℕ). ps ++ later) (map-append proxy_of l.sides.items (c.of.result ∷ []))
          ∙ ap (λ (p : ℕ). (map proxy_of l.sides.items ++ p ∷ []) ++ later) c.of.ensures
          ∙ append_assoc (map proxy_of l.sides.items) (one ∷ []) later
          ∙ ap (λ (ps : List ℕ). map proxy_of l.sides.items ++ ps) (sym next)
          ∙ l.invariant.numbers;
    }

pub returns : goal.returns
returns g c =
    let l = c.loop-one in
    let none : into_iter_items l.one-iterator ≡ [] = nil_from_length (into_iter_items l.one-iterator) (sym l.invariant.count ∙ c.in-None.ensures.steps.0) in
    sym (append-nil (map proxy_of l.sides.items)) ∙ ap (λ (ps : List ℕ). map proxy_of l.sides.items ++ ps) (sym none) ∙ l.invariant.numbers
