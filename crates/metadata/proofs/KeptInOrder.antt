-- The entries of the metadata are in order, and all of their keys are kept, before and after each change.
use Rattle.std.proofs.Common.{◌≡◌, sym, ap, ◌∙◌, subst, ℕ, List, [], Bool, true, if◌then◌else◌, nat_cmp}
use Rattle.std.specs.BTreeMap.{insert_entry}
use Rattle.std.specs.Cmp.Lexicographic.{slice_cmp}
use Rattle.system_keys.specs.declared.change.Change.{Change}
use Rattle.system_keys.specs.declared.change.Change.TheVariants.{Set}
use Rattle.system_keys.specs.Keys.{Key}
use Rattle.system_keys.specs.Families.{is_kept_key}
use Rattle.model.specs.Metadata.{Entries, IsInOrder, AreKept, after_change, metadata}
use Rattle.model.proofs.Metadata.Entries.{metadata_in_order, changed_in_order}
use Rattle.model.proofs.Metadata.Changes.{metadata_kept, kept_after_change}

-- the entries are in order, and all of their keys are kept
abbrev pub AreKeptInOrder : Entries → Type 0
AreKeptInOrder rows = IsInOrder rows × AreKept rows

no_rows : AreKeptInOrder []
unfolding metadata
no_rows = (metadata_in_order [], metadata_kept [])

pub none_kept_in_order : (rows : Entries) → rows ≡ [] → AreKeptInOrder rows
none_kept_in_order rows none = subst AreKeptInOrder (sym none) no_rows

pub changed_kept_in_order : (old new : Entries) (change : Change) → AreKeptInOrder old → new ≡ after_change old change → AreKeptInOrder new
changed_kept_in_order old new change fine is = subst AreKeptInOrder (sym is) (changed_in_order old change fine.0, kept_after_change old change fine.1)

pub put_kept_in_order : (old new : Entries) (key : Key) (value : List ℕ) → AreKeptInOrder old → is_kept_key key ≡ true → new ≡ insert_entry (slice_cmp nat_cmp) old key value → AreKeptInOrder new
put_kept_in_order old new key value fine kept is =
    changed_kept_in_order old new (Set key value) fine (is ∙ ap (λ (own : Bool). if own then insert_entry (slice_cmp nat_cmp) old key value else old) (sym kept))
