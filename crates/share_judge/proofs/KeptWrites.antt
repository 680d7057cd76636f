-- The starts that a history keeps, as writes: what they give each key, and what changes it.
use Rattle.std.proofs.Common.{◌≡◌, refl, sym, ap, ◌∙◌, subst, ℕ, ◌≤◌, max, List, [], ◌∷◌, Bool, true, false, cond, not, ◌&&◌, nat_le, if◌then◌else◌, arith}
use Rattle.system_keys.specs.Keys.{Key, is_key_below}
use Rattle.system_keys.proofs.KeyOrder.{below_trans}
use Rattle.model.specs.WriteHistories.{last_at, unless_forgotten}
use Rattle.share_judge.specs.Steps.{Start, last_from, last_of_all, settled, writes_from, writes_of_starts, kept_writes, IsBefore, AreRising, TellTheSame}
use Rattle.share_judge.specs.Kept.{AreKept}
use Rattle.share_judge.proofs.Settled.{settled_last, settled_past, settled_rising, same_last, same_past}

pub none_is : (dropped : ℕ) → unless_forgotten dropped 0 ≡ 0
none_is dropped = by (nat_le 0 dropped)
  where
    by : (t : Bool) → ◌≡◌ {A = ℕ} (cond t 0 0) 0
    by true = refl
    by false = refl

from_writes : (begin : Key) (version : ℕ) (ss : List Start) (key : Key) → IsBefore begin ss → AreRising ss → last_of_all version ss ≡ 0 → last_at (writes_from begin version ss) key ≡ cond (is_key_below key begin) 0 (last_from version ss key)
from_writes begin version [] key all rising none = by (is_key_below key begin)
  where
    by : (t : Bool) → 0 ≡ cond t 0 version
    by true = refl
    by false = sym none
from_writes begin version (s ∷ ss) key all rising none = by (is_key_below key begin) refl (is_key_below key s.0) refl (from_writes s.0 s.1 ss key rising.0 rising.1 none)
  where
    later : ℕ
    later = last_at (writes_from s.0 s.1 ss) key

    by : (t : Bool) → is_key_below key begin ≡ t → (u : Bool) → is_key_below key s.0 ≡ u → later ≡ cond (is_key_below key s.0) 0 (last_from s.1 ss key) →
        (if not (is_key_below key begin) && is_key_below key s.0 then max version later else later) ≡ cond (is_key_below key begin) 0 (cond (is_key_below key s.0) version (last_from s.1 ss key))
    by true below u is rest =
        let too : is_key_below key s.0 ≡ true = below_trans key begin s.0 below all.0 in
        rw (below) (rest ∙ ap (λ (b : Bool). cond b 0 (last_from s.1 ss key)) too)
    by false from true is rest =
        let none_later : later ≡ 0 = rest ∙ ap (λ (b : Bool). cond b 0 (last_from s.1 ss key)) is in
        rw (from, is) (omega (arith, none_later))
    by false from false is rest = rw (from, is) (rest ∙ ap (λ (b : Bool). cond b 0 (last_from s.1 ss key)) is)

of_writes : (ss : List Start) (key : Key) → AreRising ss → last_of_all 0 ss ≡ 0 → last_at (writes_of_starts ss) key ≡ last_from 0 ss key
of_writes [] key rising none = refl
of_writes (s ∷ ss) key rising none = from_writes s.0 s.1 ss key rising.0 rising.1 none

-- at each key they have the version of the steps, unless it was dropped
pub last_kept : (dropped : ℕ) (ss : List Start) (key : Key) → AreRising ss → last_of_all 0 ss ≡ 0 → last_at (kept_writes dropped ss) key ≡ unless_forgotten dropped (last_from 0 ss key)
last_kept dropped ss key rising none =
    of_writes (settled dropped 0 ss) key (settled_rising dropped 0 ss rising)
    (sym (ap (λ n. last_of_all n (settled dropped 0 ss)) (none_is dropped)) ∙ settled_past dropped 0 ss ∙ ap (unless_forgotten dropped) none ∙ none_is dropped)
    ∙ sym (ap (λ n. last_from n (settled dropped 0 ss) key) (none_is dropped))
    ∙ settled_last dropped 0 ss key rising

-- ---- what is kept stays so

pub none_kept : (ss : List Start) → ss ≡ [] → AreKept 0 0 ss
none_kept ss is = subst (AreKept 0 0) (sym is) (record { rising = tt; past = refl; up_to = λ key. omega arith; dropped_up_to = omega arith })

pub same_kept : (last dropped : ℕ) (old new : List Start) → AreKept last dropped old → AreRising new → TellTheSame old new → AreKept last dropped new
same_kept last dropped old new kept rising same =
    record {
      rising = rising;
      past = same_past old new same ∙ kept.past;
      up_to = λ key. let is = same_last old new kept.rising rising same key in let low = kept.up_to key in omega (arith, is, low);
      dropped_up_to = kept.dropped_up_to;
    }

pub dropped_kept : (last dropped bound : ℕ) (ss : List Start) → AreKept last dropped ss → bound ≤ last → AreKept last (max dropped bound) ss
dropped_kept last dropped bound ss kept low =
    record {
      rising = kept.rising;
      past = kept.past;
      up_to = kept.up_to;
      dropped_up_to = let old = kept.dropped_up_to in omega (arith, old, low);
    }

-- a sweep
pub swept_kept : (last dropped : ℕ) (old new : List Start) → AreKept last dropped old → AreRising new → last_of_all 0 new ≡ 0 → ((key : Key) → last_from 0 new key ≡ unless_forgotten dropped (last_from 0 old key)) → AreKept last dropped new
swept_kept last dropped old new kept rising past is =
    record {
      rising = rising;
      past = past;
      up_to = λ key. less (last_from 0 old key) (last_from 0 new key) (is key) (kept.up_to key);
      dropped_up_to = kept.dropped_up_to;
    }
  where
    less : (n m : ℕ) → m ≡ unless_forgotten dropped n → n ≤ last → m ≤ last
    less n m is low = by (nat_le n dropped) is
      where
        by : (t : Bool) → m ≡ cond t 0 n → m ≤ last
        by true e = omega (arith, e)
        by false e = omega (arith, e, low)
