-- A row of the journal of which no transaction is applied changes nothing.
use Rattle.std.proofs.Common.{◌≡◌, refl, List, [], ◌∷◌, fold, Bool, true, false, ◌||◌, if◌then◌else◌}
use Rattle.std.specs.List.{list_any}
use Rattle.model.specs.declared.journal.StateTxn.{StateTxn}
use Rattle.model.specs.Metadata.{Entries, is_applied, after_state, after_changes}

pub none_applied : (locked : Bool) (rows : Entries) (states : List StateTxn) → list_any (is_applied locked) states ≡ false → fold (after_state locked) rows states ≡ rows
none_applied locked rows [] h = refl
none_applied locked rows (t ∷ states) h = by (is_applied locked t) refl (none_applied locked rows states) h
  where
    by : (b : Bool) → is_applied locked t ≡ b → (list_any (is_applied locked) states ≡ false → fold (after_state locked) rows states ≡ rows) → (b || list_any (is_applied locked) states) ≡ false
        → fold (after_state locked) (if b then after_changes rows t.mutations else rows) states ≡ rows
    by true e later k = absurd (cc)
    by false e later k = later k
