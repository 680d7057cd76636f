-- The keys of the map in a range are those of its entries there.
use Rattle.std.proofs.Common.{◌≡◌, refl, ap, ap₂, Less, Greater, is_gt, is_lt, filter, Bool, true, false, not, Ordering, Equal, nat_cmp, ◌&&◌}
use Rattle.std.specs.declared.ops.Bound.TheVariants.{Included, Excluded}
use Rattle.std.specs.BTreeMap.Range.{entries_between}
use Rattle.system_keys.proofs.KeyOrder.{up_to_is}
use Rattle.std.specs.Map.{keys_of}
use Rattle.std.specs.Cmp.Lexicographic.{slice_cmp}
use Rattle.system_keys.specs.Keys.{Key, Range, holds, is_key_below, is_key_up_to}
use Rattle.model.specs.Metadata.{Entry, Entries}
use Rattle.metadata.proofs.ServingEntries.{not_up_to}
use Rattle.metadata.proofs.KeyValues.{key_cmp}

-- the entries whose keys match a test
abbrev pub matching : (Key → Bool) → Entries → Entries
matching p rows = filter (λ (row : Entry). p row.0) rows

-- ---- the keys of a range

-- a key and one above it do not run backwards
pub below_forward : (begin end : Key) → is_key_below begin end ≡ true → is_gt (slice_cmp nat_cmp begin end) ≡ false
below_forward begin end below = forward (slice_cmp nat_cmp begin end) below
  where
    forward : (r : Ordering) → is_lt r ≡ true → is_gt r ≡ false
    forward Less h = refl
    forward Equal h = refl
    forward Greater h = absurd (cc)

-- the keys of the map between the ends of a range are those of its entries in the range
pub keys_held : (es : Entries) (begin end : Key) (range : Range) → begin ≡ range.begin → end ≡ range.end
    → keys_of (entries_between key_cmp (Included begin) (Excluded end) es) ≡ keys_of (matching (holds range) es)
keys_held es begin end range low high =
    let same : (row : Entry) → (is_key_up_to begin row.0 && not (is_key_up_to end row.0)) ≡ holds range row.0 =
    λ row. rw (low, high) (ap₂ (λ (s t : Bool). s && t) (up_to_is range.begin row.0) (not_up_to range.end row.0)) in
    ap (λ (p : Entry → Bool). keys_of (filter p es)) (λ i row. same row i)
