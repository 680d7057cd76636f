-- Steps over all keys: each start gives its version to the keys from it on, up to the next start.
use Rattle.std.specs.Prelude.{◌≡◌, ℕ, ◌+◌, ◌<◌, List, [], ◌∷◌, map, filter, Bool, true, false}
use Rattle.std.specs.Prelude.{not, ◌&&◌, ◌||◌, nat_eq, nat_lt, cond, IsTrue, ◌⊎◌}
use Rattle.std.specs.List.{list_any}
use Rattle.std.specs.Map.{keys_of}
use Rattle.std.specs.Ordering.{nat_cmp, is_eq}
use Rattle.std.specs.Cmp.Lexicographic.{slice_cmp}
use Rattle.system_keys.specs.Keys.{Key, Range, is_key_below, holds}
use Rattle.system_keys.specs.Limits.{key_space_end}
use Rattle.model.specs.Numbers.{Version}
use Rattle.model.specs.WriteHistories.{Write, unless_forgotten}
use Rattle.share_judge.specs.declared.step.Step.{Step}

-- a start: a key, and the version from there on
abbrev pub Start : Type 0
Start = Key × Version

-- what stands at a key: what the last start up to it has, or `first` before the first start
abbrev pub last_from : {X : Type 0} → (first : X) (starts : List (Key × X)) (key : Key) → X
last_from first [] key = first
last_from first (s ∷ starts) key = cond (is_key_below key s.0) first (last_from s.1 starts key)

-- what stands just before a key
abbrev pub last_before : (first : Version) (starts : List Start) (key : Key) → Version
last_before first [] key = first
last_before first (s ∷ starts) key = cond (is_key_below s.0 key) (last_before s.1 starts key) first

-- what stands past the last start
abbrev pub last_of_all : {X : Type 0} → (first : X) (starts : List (Key × X)) → X
last_of_all first [] = first
last_of_all first (s ∷ starts) = last_of_all s.1 starts

-- the starts at which the version changes, where those up to `dropped` count as none
abbrev pub settled : (dropped first : Version) (starts : List Start) → List Start
settled dropped first [] = []
settled dropped first (s ∷ starts) =
    cond (nat_eq (unless_forgotten dropped s.1) (unless_forgotten dropped first))
    (settled dropped s.1 starts)
    ((s.0, unless_forgotten dropped s.1) ∷ settled dropped s.1 starts)

-- the steps from `begin` on, each as a write of its keys at its version
abbrev pub writes_from : (begin : Key) (version : Version) (starts : List Start) → List Write
writes_from begin version [] = []
writes_from begin version (s ∷ starts) =
    record { range = record { begin = begin; end = s.0 }; version = version }
    ∷ writes_from s.0 s.1 starts

-- the steps, each as a write of its keys at its version
abbrev pub writes_of_starts : (starts : List Start) → List Write
writes_of_starts [] = []
writes_of_starts (s ∷ starts) = writes_from s.0 s.1 starts

-- the writes that starts tell, where versions up to `dropped` count as none
abbrev pub kept_writes : (dropped : Version) (starts : List Start) → List Write
kept_writes dropped starts = writes_of_starts (settled dropped 0 starts)

-- the key is below each start
abbrev pub IsBefore : {X : Type 0} → (key : Key) (starts : List (Key × X)) → Type 0
IsBefore key [] = Unit {0}
IsBefore key (s ∷ starts) = (is_key_below key s.0 ≡ true) × IsBefore key starts

-- the keys of the starts rise
abbrev pub AreRising : {X : Type 0} → (starts : List (Key × X)) → Type 0
AreRising [] = Unit {0}
AreRising (s ∷ starts) = IsBefore s.0 starts × AreRising starts

-- there is a start at the key
abbrev pub HasStart : {X : Type 0} → (starts : List (Key × X)) (key : Key) → Type 0
HasStart [] key = ⊥
HasStart (s ∷ starts) key = (key ≡ s.0) ⊎ HasStart starts key

-- no start lies between the two keys
abbrev pub IsFree : {X : Type 0} → (begin end : Key) (starts : List (Key × X)) → Type 0
IsFree begin end [] = Unit {0}
IsFree begin end (s ∷ starts) =
    (is_key_below s.0 end ≡ true → is_key_below begin s.0 ≡ false) × IsFree begin end starts

-- the keys of the starts from `begin` up to `end`
abbrev pub keys_between : {X : Type 0} → (begin end : Key) (starts : List (Key × X)) → List Key
keys_between {X} begin end starts =
    keys_of (filter (λ (s : Key × X). holds (record { begin = begin; end = end }) s.0) starts)

-- the two give each key the same version, also where versions up to a bound count as none
abbrev pub TellTheSame : (old new : List Start) → Type 0
TellTheSame old new = (dropped : Version) → settled dropped 0 new ≡ settled dropped 0 old

-- the two keys are the same
abbrev pub is_same_key : (key other : Key) → Bool
is_same_key key other = is_eq (slice_cmp nat_cmp key other)

-- the key is one of the list
abbrev pub is_listed : (keys : List Key) (key : Key) → Bool
is_listed keys key = list_any (λ k. is_same_key k key) keys

-- each key of the list has the version
abbrev pub HaveVersion : (version : Version) (starts : List Start) (keys : List Key) → Type 0
HaveVersion version starts keys =
    (key : Key) → is_listed keys key ≡ true → last_from 0 starts key ≡ version

-- the starts, with the version at those whose keys pass the test
abbrev pub marked : (test : Key → Bool) (version : Version) (starts : List Start) → List Start
marked test version starts = map (λ (s : Start). (s.0, cond (test s.0) version s.1)) starts

-- each key that passes the test has the version, each other one its own, and past the last start
-- there is still none
pub record AreOver
    (test : Key → Bool) (version : Version) (old new : List Start) : Type 0 where
  pub at : (key : Key)
      → last_from 0 new key ≡ cond (test key) version (last_from 0 old key)
  pub past : last_of_all 0 old ≡ 0 → last_of_all 0 new ≡ 0

-- the key is in one of the ranges
abbrev pub is_in_some : (ranges : List Range) (key : Key) → Bool
is_in_some ranges key = list_any (λ (range : Range). holds range key) ranges

-- ---- the steps of a map, which know what was before a share

-- a start of a map
abbrev pub StepStart : Type 0
StepStart = Key × Step

-- what stands before the first start
abbrev pub no_step : Step
no_step = record { version = 0; before = 0 }

-- the version before the share of this version
abbrev pub version_before : (share : Version) (step : Step) → Version
version_before share step = cond (nat_eq step.version share) step.before step.version

-- the starts, each with what is read from its step
abbrev pub starts_by : (read : Step → Version) (steps : List StepStart) → List Start
starts_by read steps = map (λ (s : StepStart). (s.0, read s.1)) steps

-- the starts with their versions
abbrev pub starts_now : (steps : List StepStart) → List Start
starts_now steps = starts_by (λ (step : Step). step.version) steps

-- the starts with their versions before the share of this version
abbrev pub starts_before : (share : Version) (steps : List StepStart) → List Start
starts_before share steps = starts_by (version_before share) steps

-- the key has the step, and if this is said, there is a start at it
abbrev pub IsEdge : (steps : List StepStart) (key : Key) (step : Step) (is_start : Bool) → Type 0
IsEdge steps key step is_start =
    (step ≡ last_from no_step steps key) × (IsTrue is_start → HasStart steps key)

-- no key has another version, now or before a share
pub record AreUnchanged (old new : List StepStart) : Type 0 where
  pub now : TellTheSame (starts_now old) (starts_now new)
  pub before : (share : Version)
      → TellTheSame (starts_before share old) (starts_before share new)

-- there are the same starts, and maybe one at the key, and no key has another version
pub record GainsStart (key : Key) (old new : List StepStart) : Type 0 where
  pub same : AreUnchanged old new
  pub rising : AreRising old → AreRising new
  pub others : (other : Key) → HasStart old other → HasStart new other
  pub no_more : (other : Key) → HasStart new other → HasStart old other ⊎ (other ≡ key)

-- ---- what is reached

-- some key of the range has a version above the bound
pub record IsReached (bound : Version) (last : Key → Version) (range : Range) : Type 0 where
  pub key : Key
  pub inside : IsTrue (holds range key)
  pub above : bound < last key

-- some start in the range has a version above the bound
abbrev pub has_start_above : (bound : Version) (starts : List Start) (range : Range) → Bool
has_start_above bound starts range =
    list_any (λ (s : Start). nat_lt bound s.1) (filter (λ (s : Start). holds range s.0) starts)

-- the test of `IsReached`: the range is not empty, and its begin or some start in it has a version
-- above the bound
abbrev pub is_written_above : (bound : Version) (starts : List Start) (range : Range) → Bool
is_written_above bound starts range =
    is_key_below range.begin range.end
    && (nat_lt bound (last_from 0 starts range.begin) || has_start_above bound starts range)

-- ---- counting

-- a range can end and the next one begin at the key
abbrev pub is_inner_boundary : (key : Key) → Bool
is_inner_boundary key = is_key_below [] key && is_key_below key key_space_end

-- how many of the starts begin a step with another version than the one before
abbrev pub changes_from : (dropped last : Version) (starts : List Start) → ℕ
changes_from dropped last [] = 0
changes_from dropped last (s ∷ starts) =
    let version = unless_forgotten dropped s.1 in
    cond (is_inner_boundary s.0 && not (nat_eq version last)) 1 0 + changes_from dropped version starts
