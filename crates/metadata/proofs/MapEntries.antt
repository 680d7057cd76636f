-- What the calls of the map do to its entries.
use Rattle.std.proofs.Common.{◌≡◌, refl, sym, ap, ◌∙◌, subst, Result, Ok, Err, OnOk, OnErr, ℕ, List, [], ◌∷◌, Bool, true, false, cond, not, ◌&&◌, Option, Some, None, is_eq, Less, Equal, Greater}
use Rattle.std.specs.List.{AllZip}
use Rattle.std.specs.Option.{is_some}
use Rattle.std.specs.Ordering.{ordering_reverse}
use Rattle.std.specs.BTreeMap.{insert_entry, is_at}
use Rattle.std.specs.BTreeMap.Range.{range_contains, entries_between}
use Rattle.std.specs.declared.ops.Bound.TheVariants.{Included, Unbounded}
use Rattle.std.proofs.lemmas.Cmp.{nat_list_cmp_total}
use Rattle.std.proofs.lemmas.Map.Entries.{lookup-filter-keys}
use Rattle.std.proofs.lemmas.Map.Lookups.{exact_bytes}
use Rattle.system_keys.specs.Keys.{Key, is_key_below}
use Rattle.system_keys.proofs.KeyOrder.{up_to_is}
use Rattle.model.specs.Metadata.{Entry, Entries, IsInOrder, entry_value}
use Rattle.metadata.specs.Overwrites.{is_same_key, has_entry}
use Rattle.metadata.proofs.KeyValues.{key_cmp, same_key, same_itself, Behind, none_behind, first_behind, behind_trans, turned}

-- a clone of an entry has the same key and the same value
abbrev pub IsSame : Entry → Entry → Type 0
IsSame e f = (f.0 ≡ e.0) × (f.1 ≡ e.1)

pub cloned : (es fs : Entries) → AllZip IsSame es fs → fs ≡ es
cloned [] [] same = refl
cloned [] (f ∷ fs) same = absurd same
cloned (e ∷ es) [] same = absurd same
cloned (e ∷ es) (f ∷ fs) same = λ i. (same.0.0 i, same.0.1 i) ∷ cloned es fs same.1 i

-- an insertion at a key that is there succeeds
pub filled : {X Y : Type 0} (r : Result X Y) (es new : Entries) (key : Key) (value : List ℕ) → OnOk r (new ≡ insert_entry key_cmp es key value) → OnErr r (entry_value es key ≡ None)
    → has_entry es key ≡ true → new ≡ insert_entry key_cmp es key value
filled (Ok x) es new key value ok absent there = ok
filled (Err e) es new key value ok absent there =
    let two : false ≡ true = sym (ap is_some absent) ∙ there in absurd (cc)

-- ---- a walk from the front of a key on

-- the entries from a key on have what all have at a key that is not below it
pub from_front : (es : Entries) (front key : Key) → is_key_below key front ≡ false → entry_value (entries_between key_cmp (Included front) Unbounded es) key ≡ entry_value es key
from_front es front key h =
    let there : range_contains key_cmp (Included front) Unbounded key ≡ true = ap (λ (t : Bool). t && true) (up_to_is front key ∙ ap not h) in
    lookup-filter-keys (is_at (key_cmp key)) (range_contains key_cmp (Included front) Unbounded) true (λ k same. ap (range_contains key_cmp (Included front) Unbounded) (sym (same_key key k same)) ∙ there) es

-- an entry at a smaller key is passed over
pub passed_over : (e : Entry) (rest left : Entries) (key : Key) (total : Option (List ℕ)) → left ≡ e ∷ rest → key_cmp e.0 key ≡ Less → entry_value left key ≡ total → entry_value rest key ≡ total
passed_over e rest left key total steps less so_far =
    let apart : is_same_key key e.0 ≡ false = ap is_eq (nat_list_cmp_total.antisymm key e.0 ∙ ap ordering_reverse less) in
    ap (λ (t : Bool). cond t (Some e.1) (entry_value rest key)) (sym apart) ∙ ap (λ (es : Entries). entry_value es key) (sym steps) ∙ so_far

-- an entry at the key has its value
pub found_at : (e : Entry) (rest left : Entries) (key : Key) (total : Option (List ℕ)) → left ≡ e ∷ rest → key_cmp e.0 key ≡ Equal → entry_value left key ≡ total → Some e.1 ≡ total
found_at e rest left key total steps equal so_far =
    let same : is_same_key key e.0 ≡ true = ap (is_same_key key) (exact_bytes e.0 key equal) ∙ same_itself key in
    ap (λ (t : Bool). cond t (Some e.1) (entry_value rest key)) (sym same) ∙ ap (λ (es : Entries). entry_value es key) (sym steps) ∙ so_far

-- if the first of entries in order is at a greater key, none is at the key
pub none_at : (e : Entry) (rest left : Entries) (key : Key) (total : Option (List ℕ)) → left ≡ e ∷ rest → key_cmp e.0 key ≡ Greater → IsInOrder left → entry_value left key ≡ total → None ≡ total
none_at e rest left key total steps greater s so_far =
    let less : key_cmp key e.0 ≡ Less = turned e.0 key greater in
    let all : Behind e.0 rest = first_behind e rest (subst IsInOrder steps s) in
    sym (none_behind key (e ∷ rest) (less, behind_trans key e.0 rest less all)) ∙ ap (λ (es : Entries). entry_value es key) (sym steps) ∙ so_far
