-- The starts at which the owners that are left change divide the keys.
use Rattle.std.proofs.Common.{◌≡◌, ℕ, suc, refl, sym, ap, ap₂, ◌∙◌, Bool, true, false, not, ◌&&◌, cond, List, [], ◌∷◌, length, subst}
use Rattle.std.proofs.lemmas.Bool.{both_ways}
use Rattle.system_keys.specs.Keys.{Key, is_key_below}
use Rattle.system_keys.proofs.KeyOrder.{not_below_itself, below_trans, not_below_back, up_to_below, up_to_trans, below_up_to, equal_unless_below}
use Rattle.system_keys.proofs.KeyLaws.{inside_from_holds}
use Rattle.model.specs.Owners.{Owner, trimmed}
use Rattle.model.specs.OwnerMaps.{OwnerMapView, owners_left}
use Rattle.dated_owners.specs.declared.later_owners.LaterOwner.{LaterOwner}
use Rattle.dated_owners.specs.LaterOwners.{with_first, is_first_needless, needed, are_same_owners}
use Rattle.system_keys.specs.Limits.{key_space_end}
use Rattle.dated_owners.specs.Pieces.{IsConstantIn, AreCuts, CountsPieces}
use Rattle.dated_owners.specs.Starts.{value_from, AreAbove, AreRising, AreKept, moves_of, changes}
use Rattle.dated_owners.proofs.KeyStarts.{none_below, above_from, value_up_to, value_at_first}
use Rattle.dated_owners.proofs.LaterOwnerLaws.{same_equal, equal_same, needed_left, needed_all, left_injective}
use Rattle.dated_owners.proofs.JoinedStarts.{Starts}
use Rattle.dated_owners.proofs.MadeMaps.{left_of_map}

-- the owners left of a list
abbrev left : (oldest : ℕ) → List LaterOwner → List Owner
left oldest later = trimmed oldest (with_first later)

-- the value from `begin` on is what is left of those before the first start, and then of each start
abbrev FollowsFrom : (oldest : ℕ) (value : Key → List Owner) (begin : Key) (last : List LaterOwner) (ss : Starts) → Type 0
FollowsFrom oldest value begin last ss = (q : Key) → is_key_below q begin ≡ false → is_key_below q key_space_end ≡ true → value q ≡ left oldest (value_from last ss q)

-- lists of which the same is left, before the same starts
left_alike : (oldest : ℕ) (a b : List LaterOwner) (ss : Starts) (q : Key) → left oldest a ≡ left oldest b → left oldest (value_from a ss q) ≡ left oldest (value_from b ss q)
left_alike oldest a b [] q e = e
left_alike oldest a b (s ∷ ss) q e = by (is_key_below q s.0)
  where
    by : (t : Bool) → left oldest (cond t a (value_from s.1 ss q)) ≡ left oldest (cond t b (value_from s.1 ss q))
    by true = e
    by false = refl

-- the cuts from `begin` on, as many as the changes
pub record Divided (oldest : ℕ) (value : Key → List Owner) (begin : Key) (last : List LaterOwner) (ss : Starts) : Type 0 where
  pub cuts : List Key
  pub divide : AreCuts value begin cuts
  pub counted : changes oldest last ss ≡ length cuts

-- the value from `begin` up to the first start
before_first : (oldest : ℕ) (value : Key → List Owner) (begin : Key) (last : List LaterOwner) (s : Key × List LaterOwner) (ss : Starts) (q : Key) → FollowsFrom oldest value begin last (s ∷ ss)
    → is_key_below q begin ≡ false → is_key_below q key_space_end ≡ true → is_key_below q s.0 ≡ true → value q ≡ left oldest last
before_first oldest value begin last s ss q follows from up_to below = follows q from up_to ∙ ap (λ (t : Bool). left oldest (cond t last (value_from s.1 ss q))) below

-- and from it on
from_first : (oldest : ℕ) (value : Key → List Owner) (begin : Key) (last : List LaterOwner) (s : Key × List LaterOwner) (ss : Starts) → is_key_below s.0 begin ≡ false → FollowsFrom oldest value begin last (s ∷ ss)
    → FollowsFrom oldest value s.0 (needed oldest s.1) ss
from_first oldest value begin last s ss above follows q from up_to =
    follows q (up_to_trans begin s.0 q above from) up_to
    ∙ ap (λ (t : Bool). left oldest (cond t last (value_from s.1 ss q))) from
    ∙ sym (left_alike oldest (needed oldest s.1) s.1 ss q (needed_left oldest s.1))

-- a start at which nothing changes
without_same : (oldest : ℕ) (value : Key → List Owner) (begin : Key) (last : List LaterOwner) (s : Key × List LaterOwner) (ss : Starts) → AreAbove s.0 ss → needed oldest s.1 ≡ last → FollowsFrom oldest value begin last (s ∷ ss) → FollowsFrom oldest value begin last ss
without_same oldest value begin last s ss above same follows q from up_to = follows q from up_to ∙ by (is_key_below q s.0) refl
  where
    by : (t : Bool) → is_key_below q s.0 ≡ t → left oldest (cond t last (value_from s.1 ss q)) ≡ left oldest (value_from last ss q)
    by true h = ap (left oldest) (sym (value_up_to last ss s.0 q above (not_below_back q s.0 h)))
    by false h = left_alike oldest s.1 last ss q (sym (needed_left oldest s.1) ∙ ap (left oldest) same)

-- a start past all keys
without_past : (oldest : ℕ) (value : Key → List Owner) (begin : Key) (last : List LaterOwner) (s : Key × List LaterOwner) (ss : Starts) → AreAbove s.0 ss → is_key_below s.0 key_space_end ≡ false → FollowsFrom oldest value begin last (s ∷ ss) → FollowsFrom oldest value begin last ss
without_past oldest value begin last s ss above past follows q from up_to =
    let below : is_key_below q s.0 ≡ true = below_up_to q key_space_end s.0 up_to past in
    before_first oldest value begin last s ss q follows from up_to below
    ∙ ap (left oldest) (sym (value_up_to last ss s.0 q above (not_below_back q s.0 below)))

one_cut : (oldest : ℕ) (value : Key → List Owner) (begin : Key) (last : List LaterOwner) (s : Key × List LaterOwner) (ss : Starts) → is_first_needless oldest last ≡ false
    → is_key_below begin key_space_end ≡ true → is_key_below begin s.0 ≡ true → AreAbove s.0 ss → is_key_below s.0 key_space_end ≡ true → are_same_owners (needed oldest s.1) last ≡ false
    → FollowsFrom oldest value begin last (s ∷ ss) → (more : Divided oldest value s.0 (needed oldest s.1) ss) → AreCuts value begin (s.0 ∷ more.cuts)
one_cut oldest value begin last s ss normal start above later up_to differs follows more = (above, up_to, constant, apart, more.divide)
  where
    at_begin : value begin ≡ left oldest last
    at_begin = before_first oldest value begin last s ss begin follows (not_below_itself begin) start above

    constant : IsConstantIn value (record { begin = begin; end = s.0 })
    constant q held =
        let within = inside_from_holds (record { begin = begin; end = s.0 }) q held in
        before_first oldest value begin last s ss q follows within.begun (below_trans q s.0 key_space_end within.ended up_to) within.ended ∙ sym at_begin

    at_start : value s.0 ≡ left oldest (needed oldest s.1)
    at_start =
        follows s.0 (not_below_back begin s.0 above) up_to
        ∙ ap (left oldest) (value_at_first last s ss later)
        ∙ sym (needed_left oldest s.1)

    apart : value begin ≡ value s.0 → ⊥
    apart e =
        both_ways (are_same_owners (needed oldest s.1) last) differs
        (equal_same (needed oldest s.1) last (sym (left_injective oldest last (needed oldest s.1) normal (needed_all oldest s.1) (sym at_begin ∙ e ∙ at_start))))

cuts_from : (oldest : ℕ) (value : Key → List Owner) (begin : Key) (last : List LaterOwner) (ss : Starts) → is_first_needless oldest last ≡ false → is_key_below begin key_space_end ≡ true → AreAbove begin ss → AreRising ss
    → FollowsFrom oldest value begin last ss → Divided oldest value begin last ss
cuts_from oldest value begin last [] normal start above r follows =
    record {
      cuts = [];
      divide = λ q held.
          let within = inside_from_holds (record { begin = begin; end = key_space_end }) q held in
          follows q within.begun within.ended ∙ sym (follows begin (not_below_itself begin) start);
      counted = refl;
    }
cuts_from oldest value begin last (s ∷ ss) normal start above r follows =
    by (is_key_below s.0 key_space_end) (are_same_owners (needed oldest s.1) last) (up_to_below [] begin s.0 (none_below begin) above.0) refl refl
    (λ rest. cuts_from oldest value begin last ss normal start above.1 r.1 rest)
    (λ up_to rest. cuts_from oldest value s.0 (needed oldest s.1) ss (needed_all oldest s.1) up_to r.0 r.1 rest)
  where
    first : FollowsFrom oldest value s.0 (needed oldest s.1) ss
    first = from_first oldest value begin last s ss (not_below_back begin s.0 above.0) follows

    next : ℕ
    next = changes oldest (needed oldest s.1) ss

    choice : {b c : Bool} → is_key_below [] s.0 ≡ true → is_key_below s.0 key_space_end ≡ b → are_same_owners (needed oldest s.1) last ≡ c → changes oldest last (s ∷ ss) ≡ cond (b && not c) (suc next) (changes oldest last ss)
    choice h k e = ap (λ (t : Bool). cond (not t) next (cond (is_key_below s.0 key_space_end && not (are_same_owners (needed oldest s.1) last)) (suc next) (changes oldest last ss))) h ∙ ap₂ (λ (x y : Bool). cond (x && not y) (suc next) (changes oldest last ss)) k e

    by : (b c : Bool) → is_key_below [] s.0 ≡ true → is_key_below s.0 key_space_end ≡ b → are_same_owners (needed oldest s.1) last ≡ c
        → (FollowsFrom oldest value begin last ss → Divided oldest value begin last ss)
        → (is_key_below s.0 key_space_end ≡ true → FollowsFrom oldest value s.0 (needed oldest s.1) ss → Divided oldest value s.0 (needed oldest s.1) ss)
        → Divided oldest value begin last (s ∷ ss)
    by true true h k e skip more =
        let rest = skip (without_same oldest value begin last s ss r.0 (same_equal (needed oldest s.1) last e) follows) in
        record { cuts = rest.cuts; divide = rest.divide; counted = choice h k e ∙ rest.counted }
    by true false h k e skip more =
        let rest = more k first in
        record { cuts = s.0 ∷ rest.cuts; divide = one_cut oldest value begin last s ss normal start above.0 r.0 k e follows rest; counted = choice h k e ∙ ap suc rest.counted }
    by false c h k e skip more =
        let rest = skip (without_past oldest value begin last s ss r.0 k follows) in
        record { cuts = rest.cuts; divide = rest.divide; counted = choice h k e ∙ rest.counted }

-- ---- all keys

all_keys : (oldest : ℕ) (value : Key → List Owner) (ss : Starts) → AreRising ss → FollowsFrom oldest value [] [] ss → Divided oldest value [] [] ss
all_keys oldest value [] r follows = cuts_from oldest value [] [] [] refl refl tt tt follows
all_keys oldest value (s ∷ ss) r follows = by (is_key_below [] s.0) refl
  where
    at_first : is_key_below [] s.0 ≡ false → Divided oldest value [] (needed oldest s.1) ss
    at_first h =
        let same : [] ≡ s.0 = equal_unless_below [] s.0 h (none_below s.0) in
        let above : AreAbove [] ss = subst (λ (k : Key). AreAbove k ss) (sym same) r.0 in
        let later : FollowsFrom oldest value [] (needed oldest s.1) ss = subst (λ (k : Key). FollowsFrom oldest value k (needed oldest s.1) ss) (sym same) (from_first oldest value [] [] s ss (none_below s.0) follows) in
        cuts_from oldest value [] (needed oldest s.1) ss (needed_all oldest s.1) refl above r.1 later

    by : (t : Bool) → is_key_below [] s.0 ≡ t → Divided oldest value [] [] (s ∷ ss)
    by true h = cuts_from oldest value [] [] (s ∷ ss) refl refl (h, above_from [] s.0 ss h r.0) r follows
    by false h =
        let rest = at_first h in
        record {
          cuts = rest.cuts;
          divide = rest.divide;
          counted = ap (λ (t : Bool). cond (not t) (changes oldest (needed oldest s.1) ss) (cond (is_key_below s.0 key_space_end && not (are_same_owners (needed oldest s.1) [])) (suc (changes oldest (needed oldest s.1) ss)) (changes oldest [] ss))) h ∙ rest.counted;
        }

pub counts_pieces : (map : OwnerMapView) (ss : Starts) (count : ℕ) → map.moves ≡ moves_of ss → AreKept ss → count ≡ suc (changes map.oldest [] ss) → CountsPieces map count
counts_pieces map ss count moves kept is =
    let found = all_keys map.oldest (owners_left map) ss kept.rising (λ q from up_to. left_of_map map ss q moves kept) in
    record { cuts = found.cuts; divide = found.divide; counted = is ∙ ap suc found.counted }
