-- One more proxy has its inboxes.
use Rattle.std.proofs.Common.{◌≡◌, ◌∙◌, ◌+◌, ◌++◌, [], ◌∷◌, ℕ, List, sym, ap, subst, length, map, length-append, append-nil, append_assoc, arith}
use Rattle.std.proofs.lemmas.List.{map-append, nil_from_length}
use Rattle.std.specs.Vec.Iter.{into_iter_items}
use Rattle.inboxes.specs.Ends.{ProxyView}
use Rattle.threads_lines.specs.Threads.{AreInPlace}
use Rattle.threads_run.specs.Delivered.{proxy_of}
use Rattle.threads_run.proofs.SidesInPlace.{sides_in_place}
use Rattle.threads_run.proofs.text.inboxes_of.Goals as goal

pub loop-one-preserved : goal.loop-one-preserved
loop-one-preserved g c =
    let l = c.loop-one in
    let one = c.in-Some.one in
    let next = c.in-Some.ensures.steps.0 in
    let size = ap (λ (sides : List ProxyView). length sides) next in
    let grown = c.in_ok-push.ensures.items in
    let more : length c.push.new.self.items ≡ length l.inboxes.items + 1 = ap (λ (ps : List ℕ). length ps) grown ∙ length-append l.inboxes.items (c.new.result ∷ []) in
    record {
      all = omega (arith, size, more, l.invariant.all);
      count = omega (arith, size, l.invariant.count, c.in-Some.ensures.steps.1);
      numbers = grown
          ∙ ap (λ (ps : List ℕ). ps ++ c.new.result ∷ []) l.invariant.numbers
          ∙ ap (λ (p : ℕ). map proxy_of l.yielded ++ p ∷ []) c.new.ensures
          ∙ sym (map-append proxy_of l.yielded (one ∷ []));
      left = append_assoc l.yielded (one ∷ []) (into_iter_items c.next.new.self) ∙ ap (λ (sides : List ProxyView). l.yielded ++ sides) (sym next) ∙ l.invariant.left;
    }

pub returns-clause-in_place : goal.returns-clause-in_place
returns-clause-in_place g c =
    let l = c.loop-one in
    let config = g.N.Naming.cells.config in
    let none : into_iter_items l.one-iterator ≡ [] = nil_from_length (into_iter_items l.one-iterator) (sym l.invariant.count ∙ c.in-None.ensures.steps.0) in
    let all : l.yielded ≡ c.args.senders.items = sym (append-nil l.yielded) ∙ ap (λ (sides : List ProxyView). l.yielded ++ sides) (sym none) ∙ l.invariant.left in
    let numbers : l.inboxes.items ≡ map proxy_of c.args.senders.items = l.invariant.numbers ∙ ap (λ (sides : List ProxyView). map proxy_of sides) all in
    λ sides. subst AreInPlace (sym numbers) (sides_in_place config.proxies config.resolvers c.args.senders.items sides)
