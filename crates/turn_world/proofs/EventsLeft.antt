-- The offers that are left, as events.
use Rattle.std.proofs.Common.{◌≡◌, refl, sym, ap, ◌∙◌, subst, ℕ, suc, ◌<◌, ◌≤◌, inl, List, [], ◌∷◌, ◌++◌, map, filter, length, nat_le, slice_index, append_assoc, append-nil, arith}
use Rattle.std.specs.Prelude.{Result, Ok, Err, OnErr}
use Rattle.std.proofs.lemmas.Bool.{le-leb}
use Rattle.std.proofs.lemmas.Grind.{flat_map-append}
use Rattle.std.proofs.lemmas.List.{map-append}
use Rattle.model.specs.Shares.{each_below}
use Rattle.model.specs.World as world
use Rattle.model.proofs.Members.{Has, Has-filter, Has-map}
use Rattle.model.proofs.History.Growth.{Has-each_below}
use Rattle.endings.proofs.Rounds.{Has-flat_map}
use Rattle.turn_world.specs.Events.{event_of}
use Rattle.turn_world.specs.Ending.{offers_missing, offers_missing_of_row}
use Rattle.turn_world.specs.Parts.{missing_of}
use Rattle.turn_world.specs.declared.event.Event.{Event}

-- ---- what is appended to a list of events

-- some events, and then these
abbrev pub AreWith : (before added : List world.Event) → List Event → Type 0
AreWith before added all = map event_of all ≡ before ++ added

pub with_none : (all : List Event) → AreWith (map event_of all) [] all
with_none all = sym (append-nil (map event_of all))

-- one event more
pub with_one : (before added : List world.Event) (all pushed : List Event) (event : Event) → pushed ≡ all ++ event ∷ [] → AreWith before added all → AreWith before (added ++ event_of event ∷ []) pushed
with_one before added all pushed event is so_far =
    ap (map event_of) is ∙ map-append event_of all (event ∷ []) ∙ ap (λ (es : List world.Event). es ++ event_of event ∷ []) so_far ∙ append_assoc before added (event_of event ∷ [])

-- further events that were appended to these
with_more : (before added more : List world.Event) (all pushed : List Event) → map event_of pushed ≡ map event_of all ++ more → AreWith before added all → AreWith before (added ++ more) pushed
with_more before added more all pushed is so_far = is ∙ ap (λ (es : List world.Event). es ++ more) so_far ∙ append_assoc before added more

-- what holds anyway, holds of a failure
pub on_err : {A B : Type 0} (result : Result A B) {P : Type 0} → P → OnErr result P
on_err (Ok a) p = tt
on_err (Err b) p = p

pub has_length : {X : Type 0} (xs : List X) (x : X) → Has xs x → 0 < length xs
has_length [] x has = absurd has
has_length (y ∷ ys) x has = omega arith

first_of : {X : Type 0} (xs : List X) → 0 < length xs → (x : X) × Has xs x
first_of [] some = absurd (omega arith)
first_of (x ∷ xs) some = (x, inl refl)

-- ---- the offers of a row

-- those to resolvers below k
abbrev pub offers_below : (counts : List ℕ) (row k : ℕ) → List world.Event
offers_below counts row k = map (λ (r : ℕ). world.Offer row r) (filter (λ (r : ℕ). nat_le (slice_index counts r) row) (each_below k))

-- a resolver that has not judged the row is to get it
pub offer_due : (counts : List ℕ) (row k : ℕ) → k < length counts → slice_index counts k ≤ row → 0 < length (offers_missing_of_row counts row)
offer_due counts row k there low =
    has_length (offers_missing_of_row counts row) (world.Offer row k)
    (Has-map (λ (r : ℕ). world.Offer row r) (missing_of row counts) k
    (Has-filter (λ (r : ℕ). nat_le (slice_index counts r) row) (each_below (length counts)) k (Has-each_below (length counts) k there) (le-leb (slice_index counts k) row low)))

-- ---- the offers of all rows

pub row_offered : (before : List world.Event) (counts : List ℕ) (row m : ℕ) (all pushed : List Event) → m ≡ suc row → map event_of pushed ≡ map event_of all ++ offers_missing_of_row counts row → AreWith before (offers_missing counts row) all → AreWith before (offers_missing counts m) pushed
row_offered before counts row m all pushed next is so_far = subst (λ (es : List world.Event). AreWith before es pushed) (sym more) (with_more before (offers_missing counts row) (offers_missing_of_row counts row) all pushed is so_far)
  where
    more : offers_missing counts m ≡ offers_missing counts row ++ offers_missing_of_row counts row
    more = ap (offers_missing counts) next ∙ flat_map-append (offers_missing_of_row counts) (each_below row) (row ∷ []) ∙ ap (λ (es : List world.Event). offers_missing counts row ++ es) (append-nil (offers_missing_of_row counts row))

pub row_due : (counts : List ℕ) (rows row : ℕ) → row < rows → 0 < length (offers_missing_of_row counts row) → 0 < length (offers_missing counts rows)
row_due counts rows row there some =
    let first = first_of (offers_missing_of_row counts row) some in
    has_length (offers_missing counts rows) first.0 (Has-flat_map (offers_missing_of_row counts) (each_below rows) row first.0 (Has-each_below rows row there) first.1)
