-- Stamps, and which mutations are state mutations.
use Rattle.std.specs.Prelude.{◌≡◌, ℕ, List, [], ◌∷◌, ◌++◌, map, replicate, codes, true, false, Some}
use Rattle.system_keys.specs.declared.change.Change.TheVariants as changes
use Rattle.system_keys.specs.Changes.{is_state}
use Rattle.model.specs.declared.verdict.Verdict.TheVariants.{Committed}
use Rattle.model.specs.declared.outcome.Outcome.TheVariants as outcomes
use Rattle.model.specs.Stamps.{SetStamped, stamped_value}
use Rattle.model.specs.World.{Event, Sequence, Finish, Sequenced, proxy_routing}
use Rattle.model.specs.Examples.{cluster, told, a, range, mutating, judged, completed, version_row}
use Rattle.scenarios.specs.Vocabulary.{after, to_both, tagged}

abbrev pub stamping : List Event
stamping =
    Sequence 0 (mutating (SetStamped version_row (replicate 14 0) ∷ []) ∷ []) ∷ to_both 0
    ++ Finish 0 ∷ []

abbrev pub first_stamp : List ℕ
first_stamp = 0 ∷ 0 ∷ 0 ∷ 0 ∷ 0 ∷ 0 ∷ 0 ∷ 10 ∷ 0 ∷ 0 ∷ []

-- the stamp of the first transaction at version 10 becomes the metadata version
abbrev pub TheMetadataVersionIsStamped : Type 0
TheMetadataVersionIsStamped =
    (told cluster stamping
    ≡ Sequenced 0 10
    ∷ judged 0 0 10 0 (Committed ∷ []) []
    ∷ judged 0 0 10 1 (Committed ∷ []) []
    ∷ completed 0 10 (outcomes.Committed 10 0 ∷ [])
    (tagged 0 0 (changes.Set version_row first_stamp) [] ∷ [])
    ∷ [])
    × (proxy_routing cluster (after cluster stamping) 0
    ≡ record { version = 10; locked = false; metadata_version = Some first_stamp; routes = [] })

-- the ten bytes at the offset become the version and the number, and the four bytes of the offset
-- go
abbrev pub AStampInAText : Type 0
AStampInAText =
    stamped_value 258 3 (codes "ab0123456789" ++ 2 ∷ 0 ∷ 0 ∷ 0 ∷ [])
    ≡ codes "ab" ++ 0 ∷ 0 ∷ 0 ∷ 0 ∷ 0 ∷ 0 ∷ 1 ∷ 2 ∷ 0 ∷ 3 ∷ []

-- Sets at `\xff`, in `\xff\x02` and below `\xff`; Clears that end at `\xff`, reach into the system
-- keys, lie inside `[\xff\x02, \xff\x03)`, and reach past it
abbrev pub WhatAStateMutationIs : Type 0
WhatAStateMutationIs =
    map is_state
    (changes.Set (255 ∷ []) []
    ∷ changes.Set (255 ∷ 2 ∷ codes "a") []
    ∷ changes.Set (254 ∷ []) []
    ∷ changes.Clear (range a (255 ∷ []))
    ∷ changes.Clear (range a (255 ∷ 2 ∷ []))
    ∷ changes.Clear (range (255 ∷ 2 ∷ codes "a") (255 ∷ 3 ∷ []))
    ∷ changes.Clear (range (255 ∷ 2 ∷ []) (255 ∷ 4 ∷ []))
    ∷ [])
    ≡ true ∷ false ∷ false ∷ false ∷ true ∷ false ∷ true ∷ []
