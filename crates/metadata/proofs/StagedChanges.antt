-- What one change puts and clears.
use Rattle.std.proofs.Common.{◌≡◌, refl, sym, ap, ◌∙◌, ℕ, List, [], Bool, true, false, if◌then◌else◌, ◌&&◌, ◌||◌, filter, None}
use Rattle.std.specs.Option.{option_or}
use Rattle.std.specs.Map.{keys_of}
use Rattle.system_keys.specs.declared.change.Change.TheVariants.{Set, Clear}
use Rattle.system_keys.specs.Keys.{Key, Range, holds}
use Rattle.model.specs.Metadata.{Entry, Entries, entry_value, after_change}
use Rattle.metadata.specs.Overwrites.{is_listed, has_entry, IsOverwritten}
use Rattle.metadata.proofs.ListedKeys.{filtered_keys}
use Rattle.metadata.proofs.OverwrittenEntries.{over_change, cleared_or_none}

pub set_staged : (old puts made : Entries) (cleared : List Key) (k : Key) (value : List ℕ) → cleared ≡ [] → made ≡ [] → puts ≡ after_change made (Set k value) → IsOverwritten cleared puts old (after_change old (Set k value))
set_staged old puts made cleared k value none empty is = λ key.
    over_change (Set k value) key false [] old old refl
    ∙ ap (λ (rows : Entries). option_or (entry_value rows key) (entry_value old key)) (sym (is ∙ ap (λ (rows : Entries). after_change rows (Set k value)) empty))
    ∙ ap (λ (keys : List Key). option_or (entry_value puts key) (if is_listed keys key then None else entry_value old key)) (sym none)

nothing_more : (b : Bool) → (b || false) ≡ b
nothing_more true = refl
nothing_more false = refl

pub clear_staged : (old puts : Entries) (keys was all : List Key) (range : Range) → was ≡ [] → puts ≡ [] → keys ≡ keys_of (filter (λ (row : Entry). holds range row.0) old) → ((key : Key) → is_listed all key ≡ (is_listed keys key || is_listed was key))
    → IsOverwritten all puts old (after_change old (Clear range))
clear_staged old puts keys was all range none empty are all_is = λ key.
    over_change (Clear range) key false [] old old refl
    ∙ sym (cleared_or_none (holds range key) (entry_value old key))
    ∙ ap (λ (t : Bool). if t then None else entry_value old key) (sym (listed key))
    ∙ ap (λ (rows : Entries). option_or (entry_value rows key) (if is_listed all key then None else entry_value old key)) (sym empty)
  where
    listed : (key : Key) → is_listed all key ≡ (holds range key && has_entry old key)
    listed key =
        all_is key
        ∙ ap (λ (more : List Key). is_listed keys key || is_listed more key) none
        ∙ nothing_more (is_listed keys key)
        ∙ ap (λ (list : List Key). is_listed list key) are
        ∙ filtered_keys (holds range) old key
