-- Keys at which a value begins: each stands for all keys from it on, up to the next.
use Rattle.std.specs.Prelude.{◌≡◌, ℕ, suc, List, [], ◌∷◌, ◌++◌, map, filter, Bool, ◌&&◌, ◌||◌}
use Rattle.std.specs.Prelude.{not, if◌then◌else◌, ◌⊎◌, true}
use Rattle.std.specs.List.{list_any}
use Rattle.std.specs.Ordering.{nat_cmp}
use Rattle.std.specs.BTreeMap.{insert_entry}
use Rattle.std.specs.Cmp.Lexicographic.{slice_cmp}
use Rattle.system_keys.specs.Keys.{Key, Range, holds, is_key_below}
use Rattle.model.specs.declared.moves.Move.{Move}
use Rattle.dated_owners.specs.declared.later_owners.LaterOwner.{LaterOwner}
use Rattle.dated_owners.specs.LaterOwners.{needed, are_same_owners}
use Rattle.system_keys.specs.Limits.{key_space_end}

-- the value at a key: the value of the last start up to it, or `value` before the first
abbrev pub value_from : {X : Type 0} → (value : X) → List (Key × X) → Key → X
value_from value [] key = value
value_from value (s ∷ ss) key = if is_key_below key s.0 then value else value_from s.1 ss key

-- the value past the last start
abbrev pub last_value : {X : Type 0} → (value : X) → List (Key × X) → X
last_value value [] = value
last_value value (s ∷ ss) = last_value s.1 ss

-- all starts are above the key
abbrev pub AreAbove : {X : Type 0} → Key → List (Key × X) → Type 0
AreAbove key [] = Unit {0}
AreAbove key (s ∷ ss) = (is_key_below key s.0 ≡ true) × AreAbove key ss

-- the starts rise
abbrev pub AreRising : {X : Type 0} → List (Key × X) → Type 0
AreRising [] = Unit {0}
AreRising (s ∷ ss) = AreAbove s.0 ss × AreRising ss

-- the key is one of the starts
abbrev pub IsStart : {X : Type 0} → Key → List (Key × X) → Type 0
IsStart key [] = ⊥
IsStart key (s ∷ ss) = (key ≡ s.0) ⊎ IsStart key ss

-- each of the first starts is one of the others
abbrev pub AreStarts : {X : Type 0} → (some all : List (Key × X)) → Type 0
AreStarts [] all = Unit {0}
AreStarts (s ∷ some) all = IsStart s.0 all × AreStarts some all

-- the starts with these put in, one after another
abbrev pub put_all_owners : {X : Type 0} → (all some : List (Key × X)) → List (Key × X)
put_all_owners all [] = all
put_all_owners all (s ∷ some) = put_all_owners (insert_entry (slice_cmp nat_cmp) all s.0 s.1) some

-- the key is above the begin of the range and below its end
abbrev pub is_inside : Range → Key → Bool
is_inside range key = is_key_below range.begin key && is_key_below key range.end

-- the starts in the range, each with the value that it is given
abbrev pub changed_in : {X : Type 0} → Range → (X → X) → List (Key × X) → List (Key × X)
changed_in range change [] = []
changed_in range change (s ∷ ss) =
    if holds range s.0
    then (s.0, change s.1) ∷ changed_in range change ss
    else changed_in range change ss

-- each start with the value that it is given
abbrev pub with_values : {X : Type 0} → (X → X) → List (Key × X) → List (Key × X)
with_values change [] = []
with_values change (s ∷ ss) = (s.0, change s.1) ∷ with_values change ss

-- the value at the begin of the range passes the test, or the value of a start inside
abbrev pub some_start : {X : Type 0} → X → List (Key × X) → (X → Bool) → Range → Bool
some_start {X} value ss test range =
    test (value_from value ss range.begin)
    || list_any (λ (s : Key × X). test s.1) (filter (λ (s : Key × X). is_inside range s.0) ss)

-- ---- owners

-- what a map of owners keeps: the starts rise, and past the last one there is the first owner alone
pub record AreKept (ss : List (Key × List LaterOwner)) : Type 0 where
  pub rising : AreRising ss
  pub none_past : last_value [] ss ≡ []

-- the keys of the range have one owner more, and all others their own
abbrev pub AddsIn : Range → LaterOwner → (before after : List (Key × List LaterOwner)) → Type 0
AddsIn range o before after =
    (key : Key) → value_from [] after key
    ≡ (if holds range key then value_from [] before key ++ o ∷ [] else value_from [] before key)

-- the starts at which the owners change, where `before` are those before the first
abbrev pub joined : (before : List LaterOwner) → List (Key × List LaterOwner) → List (Key × List LaterOwner)
joined before [] = []
joined before (s ∷ ss) = if are_same_owners s.1 before then joined before ss else s ∷ joined s.1 ss

-- a move of the range to each of the owners
abbrev pub moves_in : Range → List LaterOwner → List Move
moves_in range later =
    map (λ (o : LaterOwner). record { range = range; date = o.date; dest = o.resolver }) later

-- the moves that give each start its owners, where the keys from `begin` on have `later`
abbrev pub moves_from : (begin : Key) → (later : List LaterOwner) → List (Key × List LaterOwner) → List Move
moves_from begin later [] = []
moves_from begin later (s ∷ ss) =
    moves_in (record { begin = begin; end = s.0 }) later ++ moves_from s.0 s.1 ss

-- the moves that give each key its owners
abbrev pub moves_of : List (Key × List LaterOwner) → List Move
moves_of ss = moves_from [] [] (joined [] ss)

-- how many of the starts change the owners that are needed, where `last` are those before: a start
-- at the empty key changes none, and neither does one past all keys
abbrev pub changes : (oldest : ℕ) (last : List LaterOwner) → List (Key × List LaterOwner) → ℕ
changes oldest last [] = 0
changes oldest last (s ∷ ss) =
    if not (is_key_below [] s.0) then changes oldest (needed oldest s.1) ss
    else if is_key_below s.0 key_space_end && not (are_same_owners (needed oldest s.1) last)
    then suc (changes oldest (needed oldest s.1) ss)
    else changes oldest last ss
