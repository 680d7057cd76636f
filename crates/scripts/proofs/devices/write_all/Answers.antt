use Rattle.std.proofs.Common.{◌≡◌, ℕ, List, ◌++◌, ◌-◌, ◌<◌, length, take, drop, ap, ◌∙◌, append_assoc, take-append-drop, inl, arith, length-drop}
use Rattle.std.proofs.KnownBytes.{Appends-trans}
use Rattle.std.proofs.lemmas.List.{take_rest}
use Rattle.scripts.proofs.devices.write_all.Goals as goal

moves_front : (bytes front rest : List ℕ) (n : ℕ) → front ++ rest ≡ bytes → (front ++ take n rest) ++ take (length rest - n) (drop n rest) ≡ bytes
moves_front bytes front rest n whole =
    ap (λ l. (front ++ take n rest) ++ l) (take_rest rest n)
    ∙ append_assoc front (take n rest) (drop n rest) ∙ ap (λ l. front ++ l) (take-append-drop n rest) ∙ whole

pub loop-rest-preserved : goal.loop-rest-preserved
loop-rest-preserved g c =
    let (front, whole, appended) = c.loop-rest.invariant.split in
    let n = c.in_ok-count.count in
    let some : 0 < n = omega (arith, c.if-count-eq0.false) in
    record {
      split = (front ++ take n c.loop-rest.rest.now, moves_front _ front c.loop-rest.rest.now n whole, Appends-trans _ _ _ _ _ appended c.in_ok-count.ensures.put);
      no_failure = c.in_ok-count.ensures.no_failure (inl some) ∙ c.loop-rest.invariant.no_failure;
      front = omega (arith, length-drop {A = ℕ}, c.loop-rest.invariant.front);
      called = omega (arith, length-drop {A = ℕ}, some, c.in_ok-count.ensures.bound, c.in_ok-count.ensures.called, c.loop-rest.invariant.called);
    }
