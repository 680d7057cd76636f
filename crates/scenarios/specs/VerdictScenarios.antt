-- The verdicts of one resolver and of two.
use Rattle.std.specs.Prelude.{◌≡◌, ℕ, List, [], ◌∷◌, ◌++◌, map, codes}
use Rattle.system_keys.specs.Keys.{only}
use Rattle.model.specs.Configs.{Config}
use Rattle.model.specs.declared.part.Part.{Part}
use Rattle.model.specs.declared.verdict.Verdict.TheVariants.{Conflict, TooOld, Committed}
use Rattle.model.specs.declared.outcome.Outcome.TheVariants as outcomes
use Rattle.model.specs.Verdicts.{JudgedPart, verdicts_after}
use Rattle.model.specs.World.{Event, Sequence, MoveRange, Finish, Sequenced, Moved}
use Rattle.model.specs.Examples.{cluster, told, a, b, n, range, m_to_t, judged, completed, part}
use Rattle.scenarios.specs.Vocabulary.{reading, writing, to_both}

abbrev pub long_steps : Config
long_steps = record cluster { step = 140 }

abbrev pub edge_of_the_window : List Event
edge_of_the_window =
    Sequence 0 (reading 40 a ∷ reading 39 a ∷ writing b ∷ []) ∷ to_both 0 ++ Finish 0 ∷ []

-- a snapshot at the edge of the window is in time, one before it is too old
abbrev pub TheEdgeOfTheWindow : Type 0
TheEdgeOfTheWindow =
    told long_steps edge_of_the_window
    ≡ Sequenced 0 140
    ∷ judged 0 0 140 0 (Committed ∷ TooOld ∷ Committed ∷ []) []
    ∷ judged 0 0 140 1 [] []
    ∷ completed 0 140
    (outcomes.Committed 140 0 ∷ outcomes.TooOld ∷ outcomes.Committed 140 2 ∷ []) []
    ∷ []

abbrev pub two_orders : List Event
two_orders =
    Sequence 0 (writing a ∷ reading 0 a ∷ [])
    ∷ Sequence 0 (reading 10 b ∷ (record (writing b) { snapshot = 10 }) ∷ [])
    ∷ to_both 0 ++ to_both 1 ++ Finish 0 ∷ Finish 0 ∷ []

-- in one batch a write before a read is a conflict, and a write after a read is not
abbrev pub TwoOrdersInABatch : Type 0
TwoOrdersInABatch =
    told cluster two_orders
    ≡ Sequenced 0 10
    ∷ Sequenced 1 20
    ∷ judged 0 0 10 0 (Committed ∷ Conflict ∷ []) []
    ∷ judged 0 0 10 1 [] []
    ∷ judged 0 1 20 0 (Committed ∷ Committed ∷ []) []
    ∷ judged 0 1 20 1 [] []
    ∷ completed 0 10 (outcomes.Committed 10 0 ∷ outcomes.Conflict ∷ []) []
    ∷ completed 1 20 (outcomes.Committed 20 0 ∷ outcomes.Committed 20 1 ∷ []) []
    ∷ []

abbrev pub through_two_resolvers : List Event
through_two_resolvers =
    MoveRange m_to_t 1 ∷ Sequence 0 (writing n ∷ [])
    ∷ Sequence 0 ((record (reading 5 n) { writes = only b ∷ [] }) ∷ [])
    ∷ Sequence 0 (reading 10 b ∷ [])
    ∷ to_both 0 ++ to_both 1 ++ to_both 2 ++ Finish 0 ∷ Finish 0 ∷ Finish 0 ∷ []

-- a transaction that one resolver refused and another committed conflicts with a later one at the
-- other resolver: a false conflict
abbrev pub AFalseConflictThroughTwoResolvers : Type 0
AFalseConflictThroughTwoResolvers =
    told cluster through_two_resolvers
    ≡ Moved 1
    ∷ Sequenced 0 10
    ∷ Sequenced 1 20
    ∷ Sequenced 2 30
    ∷ judged 0 0 10 0 [] []
    ∷ judged 0 0 10 1 (Committed ∷ []) []
    ∷ judged 0 1 20 0 (Committed ∷ []) []
    ∷ judged 0 1 20 1 (Conflict ∷ []) []
    ∷ judged 0 2 30 0 (Conflict ∷ []) []
    ∷ judged 0 2 30 1 [] []
    ∷ completed 0 10 (outcomes.Committed 10 0 ∷ []) []
    ∷ completed 1 20 (outcomes.Conflict ∷ []) []
    ∷ completed 2 30 (outcomes.Conflict ∷ []) []
    ∷ []

abbrev pub at_version : ℕ → Part → JudgedPart
at_version version p = record { version = version; part = p }

abbrev pub first_share : List JudgedPart
first_share = at_version 10 (part 0 0 [] (range a (codes "c") ∷ [])) ∷ []

abbrev pub second_share : List JudgedPart
second_share =
    map (at_version 20)
    (part 0 10 (only b ∷ []) []
    ∷ part 1 9 (only b ∷ []) []
    ∷ part 2 9 (only (codes "c") ∷ []) []
    ∷ part 3 9 (only b ∷ []) (only (codes "d") ∷ [])
    ∷ part 4 9 (only (codes "d") ∷ []) []
    ∷ part 5 9 (only (codes "e") ∷ []) (only (codes "e") ∷ [])
    ∷ [])

-- two shares of one resolver: a snapshot at the version of a write sees it; the end of a range is
-- outside; a refused write conflicts with nothing; a transaction does not conflict with itself
abbrev pub SharesJudged : Type 0
SharesJudged =
    (verdicts_after 100 [] first_share ≡ Committed ∷ [])
    × (verdicts_after 100 first_share second_share
    ≡ Committed ∷ Conflict ∷ Committed ∷ Conflict ∷ Committed ∷ Committed ∷ [])
