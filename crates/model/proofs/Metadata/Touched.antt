-- A Set meets the row that serves its key, and a Clear those that serve some key of its range.
use Rattle.std.proofs.Common.{◌≡◌, refl, sym, ap, ◌∙◌, Bool, true, false, not, Option, Some, None, filter, Contains, inl, inr}
use Rattle.std.specs.Prelude.{◌⊎◌, ◌&&◌, option_to_list}
use Rattle.system_keys.specs.declared.change.Change.TheVariants.{Set, Clear}
use Rattle.system_keys.specs.Keys.{Key, Range, is_key_below}
use Rattle.system_keys.proofs.KeyOrder.{not_below_itself, not_below_back, up_to_trans, up_to_below, up_to_is}
use Rattle.model.specs.Metadata.{Entry, Entries, IsInOrder, serving_entry, is_entry_inside, touched_entries}
use Rattle.model.specs.Routes.{Serves, ServesSome}
use Rattle.model.proofs.Members.{Has, Has-from_Contains, Contains-from_Has, Has-append_left, Has-append_right, Has-append_cases, Has-filter, Has-from_filter}
use Rattle.model.proofs.Metadata.Routes.{serves_from, from_serves, up_to_itself, not_true}

from_option : (found : Option Entry) (row : Entry) → Has (option_to_list found) row → found ≡ Some row
from_option None row h = absurd h
from_option (Some other) row (inl same) = ap (λ (r : Entry). Some r) same
from_option (Some other) row (inr h) = absurd h

to_option : (found : Option Entry) (row : Entry) → found ≡ Some row → Has (option_to_list found) row
to_option None row h = absurd (cc)
to_option (Some other) row h = let same : other ≡ row = cc in inl same

pub set_meets : (rows : Entries) (key : Key) (value : Key) (row : Entry) → IsInOrder rows → Contains (touched_entries rows (Set key value)) row → Serves rows key row
set_meets rows key value row order met = serves_from rows key row order (from_option (serving_entry rows key) row (Has-from_Contains (option_to_list (serving_entry rows key)) row met))

pub set_met : (rows : Entries) (key : Key) (value : Key) (row : Entry) → IsInOrder rows → Serves rows key row → Contains (touched_entries rows (Set key value)) row
set_met rows key value row order serves = Contains-from_Has (option_to_list (serving_entry rows key)) row (to_option (serving_entry rows key) row (from_serves rows key row order serves))

-- ---- a Clear

both : (p q : Bool) → (p && q) ≡ true → (p ≡ true) × (q ≡ true)
both true q h = (refl, h)
both false q h = absurd (cc)

both_true : (p q : Bool) → p ≡ true → q ≡ true → (p && q) ≡ true
both_true true q h k = k
both_true false q h k = absurd (cc)

pub clear_meets : (rows : Entries) (range : Range) (row : Entry) → IsInOrder rows → is_key_below range.begin range.end ≡ true → Contains (touched_entries rows (Clear range)) row → ServesSome rows range row
clear_meets rows range row order some met = by (Has-append_cases (option_to_list (serving_entry rows range.begin)) (filter (is_entry_inside range) rows) row (Has-from_Contains (touched_entries rows (Clear range)) row met))
  where
    by : Has (option_to_list (serving_entry rows range.begin)) row ⊎ Has (filter (is_entry_inside range) rows) row → ServesSome rows range row
    by (inl first) =
        record {
          key = range.begin;
          inside = both_true (not (is_key_below range.begin range.begin)) (is_key_below range.begin range.end) (ap not (not_below_itself range.begin)) some;
          serves = serves_from rows range.begin row order (from_option (serving_entry rows range.begin) row first);
        }
    by (inr later) =
        let kept = Has-from_filter (is_entry_inside range) rows row later in
        let between = both (is_key_below range.begin row.0) (is_key_below row.0 range.end) kept.1 in
        record {
          key = row.0;
          inside = both_true (not (is_key_below row.0 range.begin)) (is_key_below row.0 range.end) (ap not (not_below_back range.begin row.0 between.0)) between.1;
          serves = record { there = Contains-from_Has rows row kept.0; up_to = up_to_itself row.0; greatest = λ other has up. up };
        }

pub clear_met : (rows : Entries) (range : Range) (row : Entry) → IsInOrder rows → ServesSome rows range row → Contains (touched_entries rows (Clear range)) row
clear_met rows range row order some = Contains-from_Has (touched_entries rows (Clear range)) row (by (is_key_below range.begin row.0) refl)
  where
    held : (is_key_below some.key range.begin ≡ false) × (is_key_below some.key range.end ≡ true)
    held = let parts = both (not (is_key_below some.key range.begin)) (is_key_below some.key range.end) some.inside in (not_true (is_key_below some.key range.begin) parts.0, parts.1)

    -- the row is not above the key that it serves
    low : is_key_below some.key row.0 ≡ false
    low = not_true (is_key_below some.key row.0) (sym (up_to_is row.0 some.key) ∙ some.serves.up_to)

    by : (t : Bool) → is_key_below range.begin row.0 ≡ t → Has (touched_entries rows (Clear range)) row
    by true after =
        let before : is_key_below row.0 range.end ≡ true = up_to_below row.0 some.key range.end low held.1 in
        Has-append_right (option_to_list (serving_entry rows range.begin)) (filter (is_entry_inside range) rows) row
        (Has-filter (is_entry_inside range) rows row (Has-from_Contains rows row some.serves.there) (both_true (is_key_below range.begin row.0) (is_key_below row.0 range.end) after before))
    by false up =
        let serves : Serves rows range.begin row =
        record {
          there = some.serves.there;
          up_to = up_to_is row.0 range.begin ∙ ap not up;
          greatest = λ other has below.
              some.serves.greatest other has
              (up_to_is other.0 some.key
              ∙ ap not (up_to_trans other.0 range.begin some.key (not_true (is_key_below range.begin other.0) (sym (up_to_is other.0 range.begin) ∙ below)) held.0));
        } in
        Has-append_left (option_to_list (serving_entry rows range.begin)) (filter (is_entry_inside range) rows) row
        (to_option (serving_entry rows range.begin) row (from_serves rows range.begin row order serves))
