-- Fronts that differ decide, and a short key is the only one with its front.
use Rattle.std.proofs.Common.{◌≡◌, ◌∙◌, ℕ, List, ◌≤◌, length, sym, ap, ap₂, nat_cmp, get_or, min, arith}
use Rattle.std.specs.Cmp.Lexicographic.{slice_cmp}
use Rattle.std.specs.Int.{w128, from_be_bytes}
use Rattle.system_keys.specs.OrderedKeys.{front_and_length, key_of}
use Rattle.system_keys.proofs.OrderedKeys.{head_of, head_is, by_heads, by_front, counted}
use Rattle.system_keys.proofs.ordered_key.OrderedKeyOrd.cmp.Goals as goal

-- the number of a front is the head of its key
number : (front : List ℕ) (key : List ℕ) (n : ℕ) → n ≡ from_be_bytes w128 front → front ≡ front_and_length key → n ≡ head_of key
number front key n read is = read ∙ ap (from_be_bytes w128) is ∙ head_is key

pub returns-then-own-others : goal.returns-then-own-others
returns-then-own-others c =
    let one = c.self.invariant in
    let two = c.other.invariant in
    let self_key = key_of c.self.inside.front c.self.inside.whole.items in
    let other_key = key_of c.other.inside.front c.other.inside.whole.items in
    let own = number c.self.inside.front self_key c.from_be_bytes-own.result c.from_be_bytes-own.ensures one.0 in
    let others = number c.other.inside.front other_key c.from_be_bytes-others.result c.from_be_bytes-others.ensures two.0 in
    c.cmp.ensures
    ∙ ap₂ nat_cmp own others
    ∙ sym (by_heads self_key other_key one.1 two.1 (λ same. c.if-own-others.true (own ∙ same ∙ sym others)))
    ∙ ap₂ (slice_cmp nat_cmp) c.self.view_is c.other.view_is

pub returns-then-from-le-SHORT_KEY : goal.returns-then-from-le-SHORT_KEY
returns-then-from-le-SHORT_KEY c =
    let one = c.self.invariant in
    let two = c.other.invariant in
    let self_key = key_of c.self.inside.front c.self.inside.whole.items in
    let other_key = key_of c.other.inside.front c.other.inside.whole.items in
    let own = number c.self.inside.front self_key c.from_be_bytes-own.result c.from_be_bytes-own.ensures one.0 in
    let others = number c.other.inside.front other_key c.from_be_bytes-others.result c.from_be_bytes-others.ensures two.0 in
    let count : get_or c.self.inside.front 15 0 ≡ min (length self_key) 16 = ap (λ (front : List ℕ). get_or front 15 0) one.0 ∙ counted self_key in
    let short : length self_key ≤ 15 = omega (arith, count, c.from.ensures, c.if-from-le-SHORT_KEY.true) in
    sym (by_front self_key other_key one.1 two.1 short (sym own ∙ c.if-own-others.false ∙ others))
    ∙ ap₂ (slice_cmp nat_cmp) c.self.view_is c.other.view_is
