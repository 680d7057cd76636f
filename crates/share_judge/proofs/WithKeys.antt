-- Steps beside keys that were written alone: each key has the later version of both.
use Rattle.std.proofs.Common.{◌≡◌, refl, sym, ap, ap₂, ◌∙◌, ℕ, max, List, [], ◌∷◌, Bool, true, false, cond, Ordering, Less, Equal, Greater, arith}
use Rattle.std.specs.Ordering.{match_ordering}
use Rattle.std.specs.BTreeMap.{insert_entry}
use Rattle.system_keys.specs.Keys.{Key, is_key_below, holds, only}
use Rattle.share_judge.specs.declared.step.Step.{Step}
use Rattle.share_judge.specs.Steps.{Start, last_from, last_of_all, IsBefore, AreRising, TellTheSame, AreOver, is_same_key, starts_by}
use Rattle.share_judge.specs.Versions.{at_key, with_key, with_keys, Versions, AreInOrder, all_by}
use Rattle.share_judge.proofs.Starts.{key_cmp, less, greater, same_key, before_trans}
use Rattle.share_judge.proofs.Settled.{edge_same, edge_there, same_past}
use Rattle.share_judge.proofs.Readings.{read_rising}
use Rattle.share_judge.proofs.Free.{over_free, past_put}
use Rattle.share_judge.proofs.OneKey.{below_the_next, only_free, held_is}
use Rattle.share_judge.proofs.AtKeys.{none_at_key}
use Rattle.share_judge.proofs.Told.{told_alike}

insert_before : (low key : Key) (ss : List Start) (n : ℕ) → is_key_below low key ≡ true → IsBefore low ss → IsBefore low (insert_entry key_cmp ss key n)
insert_before low key [] n below all = (below, tt)
insert_before low key (s ∷ ss) n below all = by (key_cmp key s.0) (insert_before low key ss n below all.1)
  where
    by : (r : Ordering) → IsBefore low (insert_entry key_cmp ss key n) → IsBefore low (match_ordering r ((key, n) ∷ s ∷ ss) ((s.0, n) ∷ ss) (s ∷ insert_entry key_cmp ss key n))
    by Less rest = (below, all)
    by Equal rest = all
    by Greater rest = (all.0, rest)

pub insert_rising : (key : Key) (ss : List Start) (n : ℕ) → AreRising ss → AreRising (insert_entry key_cmp ss key n)
insert_rising key [] n rising = (tt, tt)
insert_rising key (s ∷ ss) n rising = by (key_cmp key s.0) refl (insert_rising key ss n rising.1)
  where
    by : (r : Ordering) → key_cmp key s.0 ≡ r → AreRising (insert_entry key_cmp ss key n) → AreRising (match_ordering r ((key, n) ∷ s ∷ ss) ((s.0, n) ∷ ss) (s ∷ insert_entry key_cmp ss key n))
    by Less is rest = ((less key s.0 is, before_trans key s.0 ss (less key s.0 is) rising.0), rising)
    by Equal is rest = rising
    by Greater is rest = (insert_before s.0 key ss n (greater key s.0 is) rising.0, rest)

-- ---- one key

key_rising : (key : Key) (version : ℕ) (ss : List Start) → AreRising ss → AreRising (with_key key version ss)
key_rising key version ss rising =
    let next = (only key).end in
    insert_rising key (insert_entry key_cmp ss next (last_from 0 ss next)) (max version (last_from 0 ss key)) (insert_rising next ss (last_from 0 ss next) rising)

key_over : (key : Key) (version : ℕ) (ss : List Start) → AreRising ss → AreOver (holds (only key)) (max version (last_from 0 ss key)) ss (with_key key version ss)
key_over key version ss rising =
    let next = (only key).end in
    let mid = insert_entry key_cmp ss next (last_from 0 ss next) in
    over_free ss mid (with_key key version ss) key next (max version (last_from 0 ss key)) (below_the_next key) rising (insert_rising next ss (last_from 0 ss next) rising)
    (λ dropped. edge_same dropped 0 ss next rising) (edge_there ss next (last_from 0 ss next)) (only_free key mid) refl

key_last : (key : Key) (version : ℕ) (ss : List Start) (other : Key) → AreRising ss → last_from 0 (with_key key version ss) other ≡ max (cond (is_same_key other key) version 0) (last_from 0 ss other)
key_last key version ss other rising =
    (key_over key version ss rising).at other
    ∙ ap (λ (b : Bool). cond b (max version (last_from 0 ss key)) (last_from 0 ss other)) (held_is key other)
    ∙ by (is_same_key other key) refl
  where
    by : (t : Bool) → is_same_key other key ≡ t → cond t (max version (last_from 0 ss key)) (last_from 0 ss other) ≡ max (cond t version 0) (last_from 0 ss other)
    by true same = ap (λ (k : Key). max version (last_from 0 ss k)) (sym (same_key other key same))
    by false differs = omega arith

key_past : (key : Key) (version : ℕ) (ss : List Start) → AreRising ss → last_of_all 0 (with_key key version ss) ≡ last_of_all 0 ss
key_past key version ss rising =
    let next = (only key).end in
    let mid = insert_entry key_cmp ss next (last_from 0 ss next) in
    past_put 0 mid key next (max version (last_from 0 ss key)) (below_the_next key) (edge_there ss next (last_from 0 ss next))
    ∙ same_past ss mid (λ dropped. edge_same dropped 0 ss next rising)

-- ---- all of them

pub keys_rising : (keys ss : List Start) → AreRising ss → AreRising (with_keys keys ss)
keys_rising [] ss rising = rising
keys_rising (k ∷ keys) ss rising = key_rising k.0 k.1 (with_keys keys ss) (keys_rising keys ss rising)

pub keys_past : (keys ss : List Start) → AreRising ss → last_of_all 0 (with_keys keys ss) ≡ last_of_all 0 ss
keys_past [] ss rising = refl
keys_past (k ∷ keys) ss rising = key_past k.0 k.1 (with_keys keys ss) (keys_rising keys ss rising) ∙ keys_past keys ss rising

pub keys_last : (keys ss : List Start) (key : Key) → AreRising keys → AreRising ss → last_from 0 (with_keys keys ss) key ≡ max (at_key 0 keys key) (last_from 0 ss key)
keys_last [] ss key rising_keys rising = omega arith
keys_last (k ∷ keys) ss key rising_keys rising =
    key_last k.0 k.1 (with_keys keys ss) key (keys_rising keys ss rising)
    ∙ ap (max (cond (is_same_key key k.0) k.1 0)) (keys_last keys ss key rising_keys.1 rising)
    ∙ by (is_same_key key k.0) refl
  where
    by : (t : Bool) → is_same_key key k.0 ≡ t → max (cond t k.1 0) (max (at_key 0 keys key) (last_from 0 ss key)) ≡ max (cond t k.1 (at_key 0 keys key)) (last_from 0 ss key)
    by true same =
        let none : at_key 0 keys key ≡ 0 = ap (at_key 0 keys) (same_key key k.0 same) ∙ none_at_key 0 keys k.0 rising_keys.0 in
        omega (arith, none)
    by false differs = omega arith

-- ---- what is read from both

pub all_rising : (read : Step → ℕ) (v : Versions) → AreInOrder v → AreRising (all_by read v)
all_rising read v order = keys_rising (starts_by read v.keys) (starts_by read v.steps) (read_rising read v.steps order.steps)

pub all_last : (read : Step → ℕ) (v : Versions) (key : Key) → AreInOrder v → last_from 0 (all_by read v) key ≡ max (at_key 0 (starts_by read v.keys) key) (last_from 0 (starts_by read v.steps) key)
all_last read v key order = keys_last (starts_by read v.keys) (starts_by read v.steps) key (read_rising read v.keys order.keys) (read_rising read v.steps order.steps)

-- where neither changes, both tell the same
pub all_alike : (read : Step → ℕ) (old new : Versions) → AreInOrder old → AreInOrder new → ((key : Key) → at_key 0 (starts_by read new.keys) key ≡ at_key 0 (starts_by read old.keys) key) → ((key : Key) → last_from 0 (starts_by read new.steps) key ≡ last_from 0 (starts_by read old.steps) key) → TellTheSame (all_by read old) (all_by read new)
all_alike read old new order order_too keys steps =
    told_alike (all_by read old) (all_by read new) (all_rising read old order) (all_rising read new order_too)
    (λ key. all_last read new key order_too ∙ ap₂ max (keys key) (steps key) ∙ sym (all_last read old key order))
