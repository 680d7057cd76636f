-- Entries that are put from the last to the first.
use Rattle.std.proofs.Common.{◌≡◌, refl, sym, ap, ◌∙◌, ℕ, List, [], ◌∷◌, ◌++◌, Bool, true, false, cond, if◌then◌else◌, Option, Some, None}
use Rattle.std.specs.Option.{option_or}
use Rattle.std.specs.BTreeMap.{insert_entry}
use Rattle.system_keys.specs.Keys.{Key}
use Rattle.model.specs.Metadata.{Entry, Entries, entry_value}
use Rattle.metadata.specs.Overwrites.{is_same_key}
use Rattle.metadata.proofs.KeyValues.{key_cmp, value_put}

-- what is left goes over what is put so far, and gives what all give
abbrev pub IsPuttingOver : (old puts now rest : Entries) → Type 0
IsPuttingOver old puts now rest =
    (key : Key) → option_or (entry_value rest key) (entry_value now key) ≡ option_or (entry_value puts key) (entry_value old key)

pub putting_over_first : (old puts rest : Entries) → rest ≡ puts → IsPuttingOver old puts old rest
putting_over_first old puts rest is key = ap (λ (rows : Entries). option_or (entry_value rows key) (entry_value old key)) is

last_value : (front : Entries) (row : Entry) (key : Key) → entry_value (front ++ row ∷ []) key ≡ option_or (entry_value front key) (if is_same_key key row.0 then Some row.1 else None)
last_value [] row key = refl
last_value (e ∷ front) row key = by (is_same_key key e.0) (last_value front row key)
  where
    by : (t : Bool) → entry_value (front ++ row ∷ []) key ≡ option_or (entry_value front key) (if is_same_key key row.0 then Some row.1 else None)
        → cond t (Some e.1) (entry_value (front ++ row ∷ []) key) ≡ option_or (cond t (Some e.1) (entry_value front key)) (if is_same_key key row.0 then Some row.1 else None)
    by true later = refl
    by false later = later

over_one : (found now : Option (List ℕ)) (s : Bool) (value : List ℕ) → option_or found (if s then Some value else now) ≡ option_or (option_or found (if s then Some value else None)) now
over_one (Some x) now s value = refl
over_one None now true value = refl
over_one None now false value = refl

pub putting_over_next : (old puts now next : Entries) (row : Entry) (front : Entries) → next ≡ insert_entry key_cmp now row.0 row.1 → IsPuttingOver old puts now (front ++ row ∷ []) → IsPuttingOver old puts next front
putting_over_next old puts now next row front put so_far key =
    ap (option_or (entry_value front key)) (ap (λ (rows : Entries). entry_value rows key) put ∙ value_put now row.0 key row.1)
    ∙ over_one (entry_value front key) (entry_value now key) (is_same_key key row.0) row.1
    ∙ ap (λ (found : Option (List ℕ)). option_or found (entry_value now key)) (sym (last_value front row key))
    ∙ so_far key
