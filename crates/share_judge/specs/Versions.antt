-- The version of every key in two maps: steps, and keys that were written alone. The later one counts.
use Rattle.std.specs.Prelude.{max, List, [], ◌∷◌, cond}
use Rattle.std.specs.Ordering.{nat_cmp}
use Rattle.std.specs.BTreeMap.{insert_entry}
use Rattle.std.specs.Cmp.Lexicographic.{slice_cmp}
use Rattle.system_keys.specs.Keys.{Key, only}
use Rattle.model.specs.Numbers.{Version}
use Rattle.share_judge.specs.declared.step.Step.{Step}
use Rattle.share_judge.specs.Steps.{Start, StepStart, AreRising, is_same_key, last_from}
use Rattle.share_judge.specs.Steps.{version_before, starts_by}

-- what stands at the key, or `none` if nothing does
abbrev pub at_key : {X : Type 0} → (none : X) (keys : List (Key × X)) (key : Key) → X
at_key none [] key = none
at_key none (k ∷ keys) key = cond (is_same_key key k.0) k.1 (at_key none keys key)

-- the starts, once this key alone has the version, unless its own is later
abbrev pub with_key : (key : Key) (version : Version) (starts : List Start) → List Start
with_key key version starts =
    let next = (only key).end in
    let ended = insert_entry (slice_cmp nat_cmp) starts next (last_from 0 starts next) in
    insert_entry (slice_cmp nat_cmp) ended key (max version (last_from 0 starts key))

-- the starts, once each of the keys alone has its version, unless its own is later
abbrev pub with_keys : (keys starts : List Start) → List Start
with_keys [] starts = starts
with_keys (k ∷ keys) starts = with_key k.0 k.1 (with_keys keys starts)

-- what is kept: the steps, and the keys that were written alone
pub record Versions : Type 0 where
  pub steps : List StepStart
  pub keys : List StepStart

-- the keys of both rise
pub record AreInOrder (versions : Versions) : Type 0 where
  pub steps : AreRising versions.steps
  pub keys : AreRising versions.keys

-- the starts of both, each with the later of what is read from them
abbrev pub all_by : (read : Step → Version) (versions : Versions) → List Start
all_by read versions = with_keys (starts_by read versions.keys) (starts_by read versions.steps)

-- the starts of both, each with the later version
abbrev pub all_now : (versions : Versions) → List Start
all_now versions = all_by (λ (step : Step). step.version) versions

-- the starts of both, each with the later version before the share of this version
abbrev pub all_before : (share : Version) (versions : Versions) → List Start
all_before share versions = all_by (version_before share) versions
