-- One owner more at the keys of a range.
use Rattle.std.proofs.Common.{◌≡◌, ⊎_elim, refl, sym, ap, ap₂, ◌∙◌, subst, true, false, cond, List, [], ◌∷◌, ◌++◌, Bool, Some, None, Result, Ok, Err, OnOk, OnErr, is_eq, length, arith}
use Rattle.std.proofs.lemmas.Bool.{both_ways}
use Rattle.std.proofs.lemmas.Cmp.{nat_list_cmp_total, tied_itself}
use Rattle.std.proofs.lemmas.List.{append_assoc}
use Rattle.std.specs.Map.{lookup}
use Rattle.std.specs.Option.{is_some}
use Rattle.std.specs.BTreeMap.{insert_entry, is_at}
use Rattle.system_keys.specs.Keys.{Key, Range, holds, is_key_below}
use Rattle.dated_owners.specs.declared.later_owners.LaterOwner.{LaterOwner}
use Rattle.dated_owners.specs.Starts.{value_from, AreAbove, AreRising, IsStart, AreStarts, AreKept, put_all_owners, changed_in, with_values, joined, AddsIn}
use Rattle.dated_owners.proofs.KeyStarts.{key_cmp, starts_stay}
use Rattle.dated_owners.proofs.PutStarts.{changed, put_changed, changed_are_starts, value_changed, last_changed}
use Rattle.dated_owners.proofs.JoinedStarts.{Starts, value_alike}

-- the owners, and one more
abbrev pub more : LaterOwner → List LaterOwner → List LaterOwner
more o later = later ++ o ∷ []

above_changed : (range : Range) (f : List LaterOwner → List LaterOwner) (b : Key) (ss : Starts) → AreAbove b ss → AreAbove b (changed range f ss)
above_changed range f b [] above = tt
above_changed range f b (s ∷ ss) above = (above.0, above_changed range f b ss above.1)

rising_changed : (range : Range) (f : List LaterOwner → List LaterOwner) (ss : Starts) → AreRising ss → AreRising (changed range f ss)
rising_changed range f [] r = tt
rising_changed range f (s ∷ ss) r = (above_changed range f s.0 ss r.0, rising_changed range f ss r.1)

-- what was cut, and then got one owner more in the range
pub record IsCut (range : Range) (old cut : Starts) : Type 0 where
  pub was : AreKept old
  pub kept : AreKept cut
  pub same : joined [] cut ≡ joined [] old
  pub begins : IsStart range.begin cut
  pub ends : IsStart range.end cut

pub put_is : (range : Range) (o : LaterOwner) (cut new some : Starts) → AreRising cut → some ≡ changed_in range (more o) cut → (AreStarts some cut → new ≡ put_all_owners cut some) → new ≡ changed range (more o) cut
put_is range o cut new some rising is put =
    put (subst (λ (xs : Starts). AreStarts xs cut) (sym is) (changed_are_starts range (more o) cut))
    ∙ ap (put_all_owners cut) is
    ∙ put_changed range (more o) cut rising

pub adds_in : (range : Range) (o : LaterOwner) (old cut new : Starts) → is_key_below range.begin range.end ≡ true → IsCut range old cut → new ≡ changed range (more o) cut → AddsIn range o old new
adds_in range o old cut new forward is put key =
    ap (λ (ss : Starts). value_from [] ss key) put
    ∙ value_changed range (more o) [] cut key forward is.kept.rising is.begins is.ends
    ∙ ap (λ (later : List LaterOwner). cond (holds range key) (later ++ o ∷ []) later) (value_alike [] cut old key is.kept.rising is.was.rising is.same)

pub still_kept : (range : Range) (o : LaterOwner) (cut new : Starts) → AreKept cut → IsStart range.end cut → new ≡ changed range (more o) cut → AreKept new
still_kept range o cut new kept ends put =
    subst AreKept (sym put)
    (record {
      rising = rising_changed range (more o) cut kept.rising;
      none_past = last_changed range (more o) [] cut kept.rising ends ∙ kept.none_past;
    })

-- ---- loops

-- one more of those that are changed
pub next_grown : (o : LaterOwner) (xs new : Starts) (copy key : Key) (later was : List LaterOwner) (es rest all : Starts)
    → new ≡ xs ++ (copy, later) ∷ [] → copy ≡ key → later ≡ more o was → es ≡ (key, was) ∷ rest → xs ++ with_values (more o) es ≡ all
    → new ++ with_values (more o) rest ≡ all
next_grown o xs new copy key later was es rest all is same grown next so_far =
    ap (λ (ys : Starts). ys ++ with_values (more o) rest) is
    ∙ append_assoc xs ((copy, later) ∷ []) (with_values (more o) rest)
    ∙ ap₂ (λ (k : Key) (x : List LaterOwner). xs ++ (k, x) ∷ with_values (more o) rest) same grown
    ∙ sym (ap (λ (ys : Starts). xs ++ with_values (more o) ys) next)
    ∙ so_far

-- the owners of the next start are put
pub next_put : (es rest : Starts) (key : Key) (later : List LaterOwner) (all now next : Starts) → es ≡ (key, later) ∷ rest
    → (IsStart key now → next ≡ put_all_owners now ((key, later) ∷ [])) → AreStarts es now × (put_all_owners now es ≡ all) → AreStarts rest next × (put_all_owners next rest ≡ all)
next_put es rest key later all now next is put facts =
    let there = subst (λ (xs : Starts). AreStarts xs now) is facts.0 in
    let at : next ≡ insert_entry key_cmp now key later = put there.0 in (
      subst (λ (ss : Starts). AreStarts rest ss) (sym at) (starts_stay rest now key later there.1),
      ap (λ (ss : Starts). put_all_owners ss rest) at ∙ sym (ap (put_all_owners now) is) ∙ facts.1,
    )

pub nothing_left : (es : Starts) → length es ≡ 0 → es ≡ []
nothing_left [] none = refl
nothing_left (e ∷ es) none = absurd (omega arith)

pub all_put : (es all now : Starts) → es ≡ [] → AreStarts es now × (put_all_owners now es ≡ all) → now ≡ all
all_put es all now is facts = sym (ap (put_all_owners now) is) ∙ facts.1

not_absent : (es : Starts) (key : Key) → IsStart key es → lookup (is_at (key_cmp key)) es ≡ None → ⊥
not_absent [] key there none = there
not_absent (e ∷ es) key there none = by (is_at (key_cmp key) e.0) refl none (λ later k. not_absent es key later k)
  where
    found : (x : List LaterOwner) → Some x ≡ None → ⊥
    found x k = both_ways true (ap is_some k) refl

    at : key ≡ e.0 → is_at (key_cmp key) e.0 ≡ true
    at same = ap (λ (k : Key). is_at (key_cmp key) k) (sym same) ∙ ap is_eq (tied_itself nat_list_cmp_total key)

    by : (t : Bool) → is_at (key_cmp key) e.0 ≡ t → cond t (Some e.1) (lookup (is_at (key_cmp key)) es) ≡ None → (IsStart key es → lookup (is_at (key_cmp key)) es ≡ None → ⊥) → ⊥
    by true h k rec = found e.1 k
    by false h k rec = ⊎_elim (λ same. both_ways (is_at (key_cmp key) e.0) h (at same)) (λ later. rec later k) there

-- an insertion at a start succeeds
pub put_there : {A B : Type 0} (r : Result A B) (es new : Starts) (key : Key) (later : List LaterOwner) → OnOk r (new ≡ insert_entry key_cmp es key later) → OnErr r (lookup (is_at (key_cmp key)) es ≡ None)
    → IsStart key es → new ≡ put_all_owners es ((key, later) ∷ [])
put_there (Ok x) es new key later ok absent there = ok
put_there (Err e) es new key later ok absent there = absurd (not_absent es key there absent)
