-- Which resolvers are asked about a range: the test at finitely many keys says what holds of some key.
use Rattle.std.proofs.Common.{◌≡◌, ℕ, ◌↔◌, ⊎_elim, refl, sym, ap, ap₂, ◌∙◌, Bool, true, false, not, ◌&&◌, if◌then◌else◌, List, [], ◌∷◌, IsTrue}
use Rattle.std.proofs.lemmas.Bool.{and_parts, and_from, or_cases, or_right, or_left}
use Rattle.std.specs.List.{list_any}
use Rattle.system_keys.specs.Keys.{Key, Range, is_key_below, holds}
use Rattle.model.specs.declared.moves.Move.{Move}
use Rattle.model.specs.Owners.{Owner, later_owners, owners, is_last, walk_visits, AsksWrite, AsksRead, move_ends, some_key, asks_write, asks_read}
use Rattle.system_keys.proofs.KeyOrder.{not_below_itself, not_below_back, up_to_trans, up_to_below}
use Rattle.system_keys.proofs.KeyLaws.{IsInside, inside_from_holds, holds_from_inside}

-- two keys are on the same side of each of these edges
abbrev pub OnSameSide : Key → Key → List Key → Type 0
OnSameSide key other [] = Unit {0}
OnSameSide key other (e ∷ es) = (is_key_below key e ≡ is_key_below other e) × OnSameSide key other es

same_holds : (range : Range) (key other : Key) → is_key_below key range.begin ≡ is_key_below other range.begin → is_key_below key range.end ≡ is_key_below other range.end → holds range key ≡ holds range other
same_holds range key other b e = ap₂ (λ s t. not s && t) b e

-- keys on the same side of each edge of the moves have the same owners
pub same_later_owners : (moves : List Move) (key other : Key) → OnSameSide key other (move_ends moves) → later_owners moves key ≡ later_owners moves other
same_later_owners [] key other same = refl
same_later_owners (m ∷ moves) key other same =
    let range : Range = m.range in
    let here = same_holds range key other same.0 same.1.0 in
    let rest = same_later_owners moves key other same.1.1 in
    ap₂ (λ (b : Bool) (later : List Owner). (if b then record { date = m.date; resolver = m.dest } ∷ later else later)) here rest

pub same_owners : (moves : List Move) (key other : Key) → OnSameSide key other (move_ends moves) → owners moves key ≡ owners moves other
same_owners moves key other same = ap (λ later. record { date = 0; resolver = 0 } ∷ later) (same_later_owners moves key other same)

-- the greatest of a low key and some edges that is at or below a key
pub record Floor (low key : Key) (es : List Key) : Type 0 where
  pub at : Key
  pub from : is_key_below at low ≡ false
  pub upto : is_key_below key at ≡ false
  pub tried : (test : Key → Bool) → test at ≡ true → list_any test (low ∷ es) ≡ true
  pub same : OnSameSide key at es

more_tried : (test : Key → Bool) (low e : Key) (es : List Key) → list_any test (low ∷ es) ≡ true → list_any test (low ∷ e ∷ es) ≡ true
more_tried test low e es h =
    ⊎_elim (λ a. or_left (test low) (list_any test (e ∷ es)) a) (λ b. or_right (test low) (list_any test (e ∷ es)) (or_right (test e) (list_any test es) b)) (or_cases (test low) (list_any test es) h)

-- an edge above the key
past : (low key e : Key) (es : List Key) → is_key_below key e ≡ true → Floor low key es → Floor low key (e ∷ es)
past low key e es above f =
    record {
      at = f.at;
      from = f.from;
      upto = f.upto;
      tried = λ test h. more_tried test low e es (f.tried test h);
      same = (above ∙ sym (up_to_below f.at key e f.upto above), f.same);
    }

-- an edge at or below the low key
under : (low key e : Key) (es : List Key) → is_key_below key e ≡ false → is_key_below low e ≡ false → Floor low key es → Floor low key (e ∷ es)
under low key e es below lower f =
    record {
      at = f.at;
      from = f.from;
      upto = f.upto;
      tried = λ test h. more_tried test low e es (f.tried test h);
      same = (below ∙ sym (up_to_trans e low f.at lower f.from), f.same);
    }

-- an edge between the low key and the key
between : (low key e : Key) (es : List Key) → is_key_below key e ≡ false → is_key_below low e ≡ true → Floor e key es → Floor low key (e ∷ es)
between low key e es below higher f =
    record {
      at = f.at;
      from = up_to_trans low e f.at (not_below_back low e higher) f.from;
      upto = f.upto;
      tried = λ test h. or_right (test low) (list_any test (e ∷ es)) (f.tried test h);
      same = (below ∙ sym f.from, f.same);
    }

pub floor : (low key : Key) (es : List Key) → is_key_below key low ≡ false → Floor low key es
floor low key [] h = record { at = low; from = not_below_itself low; upto = h; tried = λ test passes. or_left (test low) false passes; same = tt }
floor low key (e ∷ es) h = by (λ other k. floor other key es k) (is_key_below key e) (is_key_below low e) refl refl
  where
    by : ((other : Key) → is_key_below key other ≡ false → Floor other key es) → (s t : Bool) → is_key_below key e ≡ s → is_key_below low e ≡ t → Floor low key (e ∷ es)
    by more true t above higher = past low key e es above (more low h)
    by more false true below higher = between low key e es below higher (more e below)
    by more false false below lower = under low key e es below lower (more low h)

-- a key of the range whose owners pass the test
pub record IsPassed (moves : List Move) (test : List Owner → Bool) (range : Range) : Type 0 where
  pub key : Key
  pub inside : IsTrue (holds range key)
  pub passes : IsTrue (test (owners moves key))

passed_among : (moves : List Move) (test : List Owner → Bool) (range : Range) (keys : List Key) → list_any (λ (key : Key). holds range key && test (owners moves key)) keys ≡ true → IsPassed moves test range
passed_among moves test range [] h = absurd (cc)
passed_among moves test range (key ∷ keys) h =
    ⊎_elim (λ a. found (and_parts (holds range key) (test (owners moves key)) a)) (λ b. passed_among moves test range keys b) (or_cases (holds range key && test (owners moves key)) (list_any (λ (key : Key). holds range key && test (owners moves key)) keys) h)
  where
    found : (holds range key ≡ true) × (test (owners moves key) ≡ true) → IsPassed moves test range
    found both = record { key = key; inside = both.0; passes = both.1 }

pub passed_from_some_key : (moves : List Move) (test : List Owner → Bool) (range : Range) → IsTrue (some_key moves test range) → IsPassed moves test range
passed_from_some_key moves test range h = passed_among moves test range (range.begin ∷ move_ends moves) h

pub some_key_from_passed : (moves : List Move) (test : List Owner → Bool) (range : Range) → IsPassed moves test range → IsTrue (some_key moves test range)
some_key_from_passed moves test range p =
    let inside = inside_from_holds range p.key p.inside in
    let f = floor range.begin p.key (move_ends moves) inside.begun in
    let in_range : IsInside range f.at = record { begun = f.from; ended = up_to_below f.at p.key range.end f.upto inside.ended } in
    f.tried (λ (key : Key). holds range key && test (owners moves key))
    (and_from (holds range f.at) (test (owners moves f.at)) (holds_from_inside range f.at in_range) (sym (ap test (same_owners moves p.key f.at f.same)) ∙ p.passes))

-- the test of writes is right
pub asks_write_iff : (moves : List Move) (r : ℕ) (range : Range) → IsTrue (asks_write moves r range) ↔ AsksWrite moves r range
asks_write_iff moves r range = (to, from)
  where
    to : IsTrue (asks_write moves r range) → AsksWrite moves r range
    to h = let p = passed_from_some_key moves (is_last r) range h in record { key = p.key; inside = p.inside; owns = p.passes }

    from : AsksWrite moves r range → IsTrue (asks_write moves r range)
    from a = some_key_from_passed moves (is_last r) range (record { key = a.key; inside = a.inside; passes = a.owns })

-- the test of reads is right
pub asks_read_iff : (moves : List Move) (bound r : ℕ) (range : Range) → IsTrue (asks_read moves bound r range) ↔ AsksRead moves bound r range
asks_read_iff moves bound r range = (to, from)
  where
    to : IsTrue (asks_read moves bound r range) → AsksRead moves bound r range
    to h = let p = passed_from_some_key moves (walk_visits bound r) range h in record { key = p.key; inside = p.inside; met = p.passes }

    from : AsksRead moves bound r range → IsTrue (asks_read moves bound r range)
    from a = some_key_from_passed moves (walk_visits bound r) range (record { key = a.key; inside = a.inside; passes = a.met })
