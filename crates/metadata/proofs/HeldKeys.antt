-- Which keys are in the ranges that some changes clear, and in the ranges that were gone over.
use Rattle.std.proofs.Common.{◌≡◌, refl, sym, ap, ◌∙◌, ℕ, ◌+◌, ◌<◌, length, take, get_or, List, [], ◌∷◌, ◌++◌, Bool, true, false, not, ◌&&◌, ◌||◌, filter}
use Rattle.std.specs.Borrow.{Bor}
use Rattle.std.specs.List.{list_any}
use Rattle.std.specs.List.Sorted.{IsPermutation}
use Rattle.std.specs.Map.{keys_of}
use Rattle.std.proofs.lemmas.List.Sorted.{list_any-IsPermutation}
use Rattle.std.proofs.lemmas.List.Folds.{list_any_more}
use Rattle.system_keys.specs.declared.change.Change.{Change}
use Rattle.system_keys.specs.declared.change.Change.TheVariants.{Set, Clear}
use Rattle.system_keys.specs.Keys.{Key, Range, holds, is_key_below}
use Rattle.system_keys.proofs.KeyOrder.{below_up_to, not_below_itself}
use Rattle.model.specs.Metadata.{Entry, Entries}
use Rattle.metadata.specs.Overwrites.{is_listed, has_entry, cleared_keys, cleared_ranges, lent_ranges, is_held}
use Rattle.metadata.proofs.ListedKeys.{filtered_keys}
use Rattle.metadata.proofs.OverwrittenEntries.{are_clearing, listed_cleared, listed_both}

-- ---- the ranges of changes

held_clearing : (changes : List Change) (key : Key) → is_held (cleared_ranges changes) key ≡ are_clearing changes key
held_clearing [] key = refl
held_clearing (Set k value ∷ changes) key = held_clearing changes key
held_clearing (Clear range ∷ changes) key = ap (λ (t : Bool). holds range key || t) (held_clearing changes key)

-- ---- ranges that are lent, in another order

held_lent : (ranges : List (Bor Range)) (key : Key) → is_held (lent_ranges ranges) key ≡ list_any (λ (range : Bor Range). holds range.now key) ranges
held_lent [] key = refl
held_lent (range ∷ ranges) key = ap (λ (t : Bool). holds range.now key || t) (held_lent ranges key)

held_moved : (ranges moved : List (Bor Range)) (key : Key) → IsPermutation ranges moved → is_held (lent_ranges moved) key ≡ is_held (lent_ranges ranges) key
held_moved ranges moved key same = held_lent moved key ∙ sym (list_any-IsPermutation (λ (range : Bor Range). holds range.now key) ranges moved same) ∙ sym (held_lent ranges key)

-- the keys of the entries in the ranges, in any order of these, are those that the changes clear
pub held_keys_cleared : (rows : Entries) (changes : List Change) (ranges moved seen : List (Bor Range)) (keys : List Key) → lent_ranges ranges ≡ cleared_ranges changes → IsPermutation ranges moved → seen ≡ moved
    → ((key : Key) → is_listed keys key ≡ (is_held (lent_ranges seen) key && has_entry rows key)) → (key : Key) → is_listed keys key ≡ is_listed (cleared_keys rows changes) key
held_keys_cleared rows changes ranges moved seen keys are same seen_is listed = λ key.
    listed key
    ∙ ap (λ (list : List (Bor Range)). is_held (lent_ranges list) key && has_entry rows key) seen_is
    ∙ ap (λ (t : Bool). t && has_entry rows key) (held_moved ranges moved key same ∙ ap (λ (list : List Range). is_held list key) are ∙ held_clearing changes key)
    ∙ sym (listed_cleared rows changes key)

-- ---- ranges that are gone over, one after another

-- each key from one up to another is in one of the ranges
pub record IsRun (from up_to : Key) (done : List Range) : Type 0 where
  pub all : (key : Key) → holds (record { begin = from; end = up_to }) key ≡ true → is_held done key ≡ true

none_between : (t : Bool) → (not t && t) ≡ true → false ≡ true
none_between true h = h
none_between false h = h

pub no_run : (key : Key) (done : List Range) → IsRun key key done
no_run key done = record { all = λ k h. let two : false ≡ true = none_between (is_key_below k key) h in absurd (cc) }

pub held_next : (ranges : List (Bor Range)) (i : ℕ) (d : Bor Range) (key : Key) → i < length ranges → is_held (lent_ranges (take (i + 1) ranges)) key ≡ (is_held (lent_ranges (take i ranges)) key || holds (get_or ranges i d).now key)
held_next ranges i d key within =
    held_lent (take (i + 1) ranges) key
    ∙ list_any_more (λ (range : Bor Range). holds range.now key) ranges i d within
    ∙ ap (λ (t : Bool). t || holds (get_or ranges i d).now key) (sym (held_lent (take i ranges) key))

-- a key: is it in a range so far, below the begin of the run, below that of the next range, below the end of the run, and below that of the range
record AreWhere (held below_from below_begin below_up_to below_end : Bool) : Type 0 where
  pub ahead : below_from ≡ true → below_begin ≡ true
  pub joins : below_begin ≡ true → below_up_to ≡ true
  pub run : (not below_from && below_up_to) ≡ true → held ≡ true

no_more : (d a b u e : Bool) → AreWhere d a b u e → (e ≡ true → u ≡ true) → (d || (not b && e)) ≡ d
no_more true a b u e at h = refl
no_more false a true u e at h = refl
no_more false true false u e at h = let two : false ≡ true = at.ahead refl in absurd (cc)
no_more false false false u false at h = refl
no_more false false false true true at h = let two : false ≡ true = at.run refl in absurd (cc)
no_more false false false false true at h = let two : false ≡ true = h refl in absurd (cc)

as_listed : (d a b u e : Bool) → AreWhere d a b u e → (d || (not u && e)) ≡ (d || (not b && e))
as_listed true a b u e at = refl
as_listed false a true false e at = let two : false ≡ true = at.joins refl in absurd (cc)
as_listed false a false false e at = refl
as_listed false a true true e at = refl
as_listed false true false true e at = let two : false ≡ true = at.ahead refl in absurd (cc)
as_listed false false false true e at = let two : false ≡ true = at.run refl in absurd (cc)

in_run : (d a b u e : Bool) → AreWhere d a b u e → (not a && e) ≡ true → (d || (not b && e)) ≡ true
in_run true a b u e at h = refl
in_run false true b u e at h = let two : false ≡ true = h in absurd (cc)
in_run false false false u e at h = h
in_run false false true true e at h = at.run refl
in_run false false true false e at h = let two : false ≡ true = at.joins refl in absurd (cc)

-- a run that a range begins in, or at the end of
pub record Joins (from up_to : Key) (done : List Range) (range : Range) : Type 0 where
  pub run : IsRun from up_to done
  pub ahead : is_key_below range.begin from ≡ false
  pub joins : is_key_below up_to range.begin ≡ false

pub joins_anew : (from up_to : Key) (done : List Range) (range : Range) → from ≡ range.begin → up_to ≡ range.begin → Joins from up_to done range
joins_anew from up_to done range low high = record {
  run = record { all = λ k h. (no_run range.begin done).all k (rw (low, high) at h) };
  ahead = rw low (not_below_itself range.begin);
  joins = rw high (not_below_itself range.begin);
}

neither : (a b : Bool) → (not a && not b) ≡ true → (a ≡ false) × (b ≡ false)
neither true b h = absurd (cc)
neither false true h = absurd (cc)
neither false false h = (refl, refl)

pub joins_between : (from up_to begin : Key) (done : List Range) (range : Range) → IsRun from up_to done → begin ≡ range.begin → (not (is_key_below begin from) && not (is_key_below up_to begin)) ≡ true → Joins from up_to done range
joins_between from up_to begin done range run is between = record {
  run = run;
  ahead = ap (λ (k : Key). is_key_below k from) (sym is) ∙ (neither (is_key_below begin from) (is_key_below up_to begin) between).0;
  joins = ap (λ (k : Key). is_key_below up_to k) (sym is) ∙ (neither (is_key_below begin from) (is_key_below up_to begin) between).1;
}

where_is : (from up_to : Key) (done : List Range) (range : Range) (key : Key) → Joins from up_to done range
    → AreWhere (is_held done key) (is_key_below key from) (is_key_below key range.begin) (is_key_below key up_to) (is_key_below key range.end)
where_is from up_to done range key at = record {
  ahead = λ h. below_up_to key from range.begin h at.ahead;
  joins = λ h. below_up_to key range.begin up_to h at.joins;
  run = at.run.all key;
}

-- the entries in the ranges are listed, and each key of the run is in one of these
pub record AreListed (from up_to : Key) (done : List Range) (keys : List Key) (rows : Entries) : Type 0 where
  pub run : IsRun from up_to done
  pub listed : (key : Key) → is_listed keys key ≡ (is_held done key && has_entry rows key)

-- the range does not reach beyond the run
pub held_already : (from up_to end last : Key) (done after : List Range) (range : Range) (before keys : List Key) (rows : Entries) → Joins from up_to done range → is_key_below up_to end ≡ false → end ≡ range.end
    → last ≡ up_to → keys ≡ before
    → ((key : Key) → is_held after key ≡ (is_held done key || holds range key)) → ((key : Key) → is_listed before key ≡ (is_held done key && has_entry rows key))
    → AreListed from last after keys rows
held_already from up_to end last done after range before keys rows at short end_is last_is keys_are next listed = record {
  run = record { all = λ key h. same key ∙ at.run.all key (rw last_is at h) };
  listed = λ key. ap (λ (list : List Key). is_listed list key) keys_are ∙ listed key ∙ ap (λ (t : Bool). t && has_entry rows key) (sym (same key));
}
  where
    same : (key : Key) → is_held after key ≡ is_held done key
    same key =
        next key
        ∙ no_more (is_held done key) (is_key_below key from) (is_key_below key range.begin) (is_key_below key up_to) (is_key_below key range.end) (where_is from up_to done range key at)
        (λ h. below_up_to key range.end up_to h (ap (is_key_below up_to) (sym end_is) ∙ short))

either_there : (a b h : Bool) → ((a && h) || (b && h)) ≡ ((a || b) && h)
either_there true true true = refl
either_there true true false = refl
either_there true false true = refl
either_there true false false = refl
either_there false b h = refl

-- the keys from the end of the run up to that of the range are listed
pub held_more : (from up_to end last : Key) (done after : List Range) (range : Range) (before keys : List Key) (rows held : Entries) → Joins from up_to done range → end ≡ range.end
    → last ≡ range.end → keys ≡ before ++ keys_of (filter (λ (row : Entry). holds (record { begin = up_to; end = end }) row.0) held) → held ≡ rows
    → ((key : Key) → is_held after key ≡ (is_held done key || holds range key)) → ((key : Key) → is_listed before key ≡ (is_held done key && has_entry rows key))
    → AreListed from last after keys rows
held_more from up_to end last done after range before keys rows held at end_is last_is are held_is next listed = record {
  run = record {
    all = λ key h.
        next key ∙ in_run (is_held done key) (is_key_below key from) (is_key_below key range.begin) (is_key_below key up_to) (is_key_below key range.end) (where_is from up_to done range key at) (rw last_is at h);
  };
  listed = λ key.
      ap (λ (list : List Key). is_listed list key) (are ∙ ap (λ (k : Key). before ++ keys_of (filter (λ (row : Entry). holds (record { begin = up_to; end = k }) row.0) held)) end_is)
      ∙ ap (λ (entries : Entries). is_listed (before ++ keys_of (filter (λ (row : Entry). holds more row.0) entries)) key) held_is
      ∙ listed_both before (keys_of (filter (λ (row : Entry). holds more row.0) rows)) key
      ∙ ap (λ (t : Bool). t || is_listed (keys_of (filter (λ (row : Entry). holds more row.0) rows)) key) (listed key)
      ∙ ap (λ (t : Bool). (is_held done key && has_entry rows key) || t) (filtered_keys (holds more) rows key)
      ∙ either_there (is_held done key) (holds more key) (has_entry rows key)
      ∙ ap (λ (t : Bool). t && has_entry rows key)
      (as_listed (is_held done key) (is_key_below key from) (is_key_below key range.begin) (is_key_below key up_to) (is_key_below key range.end) (where_is from up_to done range key at) ∙ sym (next key));
}
  where
    more : Range
    more = record { begin = up_to; end = range.end }
