-- The owners of keys that moved.
use Rattle.std.specs.Prelude.{◌≡◌, ℕ, List, [], ◌∷◌, ◌++◌, map, filter, codes, false, None}
use Rattle.system_keys.specs.declared.change.Change.TheVariants as changes
use Rattle.system_keys.specs.Keys.{Range}
use Rattle.model.specs.Configs.{Config}
use Rattle.model.specs.declared.moves.Move.{Move}
use Rattle.model.specs.declared.verdict.Verdict.TheVariants.{Conflict, Committed}
use Rattle.model.specs.declared.outcome.Outcome.TheVariants as outcomes
use Rattle.model.specs.Records.{Record}
use Rattle.model.specs.Owners.{Owner, asks_write, asks_read, some_key, walk_visits, trimmed}
use Rattle.model.specs.Shares.{asked, each_below}
use Rattle.model.specs.Metadata.{tags_of_key}
use Rattle.model.specs.World.{World, Event, Sequence, MoveRange, Finish, Sequenced, Moved}
use Rattle.model.specs.World.{proxy_metadata, proxy_routing}
use Rattle.model.specs.Examples.{cluster, told, a, n, range, m_to_t, judged, completed}
use Rattle.scenarios.specs.Vocabulary.{after, one_proxy, reading, putting, to_both, tagged}

abbrev pub reads_after_a_move : List Event
reads_after_a_move =
    Sequence 0 [] ∷ Sequence 0 [] ∷ MoveRange m_to_t 1 ∷ Sequence 0 []
    ∷ Sequence 0 (reading 20 n ∷ reading 21 n ∷ reading 30 n ∷ [])
    ∷ to_both 0 ++ to_both 1 ++ to_both 2 ++ to_both 3

-- the resolvers that each transaction of each record asks
abbrev pub asked_by : Config → World → List (List (List ℕ))
asked_by config w = map (λ (rec : Record). map (asked config rec) rec.batch) w.history

-- a range moves after 20: reads with snapshots up to its date ask the old owner too
abbrev pub ReadsAfterAMoveAskBothOwners : Type 0
ReadsAfterAMoveAskBothOwners =
    (told cluster reads_after_a_move
    ≡ Sequenced 0 10
    ∷ Sequenced 1 20
    ∷ Moved 21
    ∷ Sequenced 2 30
    ∷ Sequenced 3 40
    ∷ judged 0 0 10 0 [] []
    ∷ judged 0 0 10 1 [] []
    ∷ judged 0 1 20 0 [] []
    ∷ judged 0 1 20 1 [] []
    ∷ judged 0 2 30 0 [] []
    ∷ judged 0 2 30 1 [] []
    ∷ judged 0 3 40 0 (Committed ∷ Committed ∷ []) []
    ∷ judged 0 3 40 1 (Committed ∷ Committed ∷ Committed ∷ []) []
    ∷ [])
    × (asked_by cluster (after cluster reads_after_a_move)
    ≡ [] ∷ [] ∷ [] ∷ ((0 ∷ 1 ∷ []) ∷ (0 ∷ 1 ∷ []) ∷ (1 ∷ []) ∷ []) ∷ [])

abbrev pub write_before_a_move : List Event
write_before_a_move =
    Sequence 0 [] ∷ Sequence 0 (putting n (codes "1") ∷ []) ∷ MoveRange m_to_t 1
    ∷ Sequence 0 (reading 10 n ∷ [])
    ∷ to_both 0 ++ to_both 1 ++ to_both 2 ++ Finish 0 ∷ Finish 0 ∷ Finish 0 ∷ []

-- a write to the old owner, the move, and a read from before the write: the old owner says
-- Conflict, the new one Committed
abbrev pub TheOldOwnerSaysConflict : Type 0
TheOldOwnerSaysConflict =
    (told one_proxy write_before_a_move
    ≡ Sequenced 0 10
    ∷ Sequenced 1 20
    ∷ Moved 21
    ∷ Sequenced 2 30
    ∷ judged 0 0 10 0 [] []
    ∷ judged 0 0 10 1 [] []
    ∷ judged 0 1 20 0 (Committed ∷ []) []
    ∷ judged 0 1 20 1 [] []
    ∷ judged 0 2 30 0 (Conflict ∷ []) []
    ∷ judged 0 2 30 1 (Committed ∷ []) []
    ∷ completed 0 10 [] []
    ∷ completed 1 20 (outcomes.Committed 20 0 ∷ []) (tagged 0 0 (changes.Set n (codes "1")) [] ∷ [])
    ∷ completed 2 30 (outcomes.Conflict ∷ []) []
    ∷ [])
    × (proxy_routing one_proxy (after one_proxy write_before_a_move) 0
    ≡ record { version = 30; locked = false; metadata_version = None; routes = [] })
    × (tags_of_key (proxy_metadata one_proxy (after one_proxy write_before_a_move) 0) n ≡ [])

abbrev pub two_moves : List Move
two_moves =
    (record { range = m_to_t; date = 21; dest = 1 })
    ∷ (record { range = range (codes "p") (codes "q"); date = 41; dest = 2 }) ∷ []

-- of three resolvers, those asked to read a range back to a bound, and to write it
abbrev pub readers : ℕ → Range → List ℕ
readers bound ranges = filter (λ (r : ℕ). asks_read two_moves bound r ranges) (each_below 3)

abbrev pub writers : Range → List ℕ
writers ranges = filter (λ (r : ℕ). asks_write two_moves r ranges) (each_below 3)

-- what remains of a list that was trimmed at some oldest versions, one after another
abbrev pub remaining : List ℕ → List Owner → List Owner
remaining [] list = list
remaining (oldest ∷ rest) list = remaining rest (trimmed oldest list)

-- the same readers, after all lists were trimmed at these oldest versions
abbrev pub readers_after : List ℕ → ℕ → Range → List ℕ
readers_after forgotten bound ranges =
    filter (λ (r : ℕ). some_key two_moves
    (λ (list : List Owner). walk_visits bound r (remaining forgotten list)) ranges) (each_below 3)

-- three resolvers, and a move inside a move: reads back to 20 and to 30, and writes of all and of
-- the part that moved; once the lists are trimmed at 30, a read back to 20 asks the same as one
-- back to 30, and a smaller oldest version trims nothing more
abbrev pub DatedOwnersOfThreeResolvers : Type 0
DatedOwnersOfThreeResolvers =
    (readers 20 m_to_t ≡ 0 ∷ 1 ∷ 2 ∷ [])
    × (readers 30 m_to_t ≡ 1 ∷ 2 ∷ [])
    × (writers (range a (codes "z")) ≡ 0 ∷ 1 ∷ 2 ∷ [])
    × (writers m_to_t ≡ 1 ∷ 2 ∷ [])
    × (readers_after (30 ∷ []) 20 m_to_t ≡ 1 ∷ 2 ∷ [])
    × (readers_after (30 ∷ 10 ∷ []) 20 m_to_t ≡ 1 ∷ 2 ∷ [])

-- one proxy, and a window of this many versions
abbrev pub of_window : ℕ → Config
of_window window = record one_proxy { window = window }

abbrev pub reads_long_after_a_move : List Event
reads_long_after_a_move =
    Sequence 0 [] ∷ MoveRange m_to_t 1 ∷ Sequence 0 [] ∷ Sequence 0 []
    ∷ Sequence 0 (reading 0 n ∷ reading 11 n ∷ reading 12 n ∷ []) ∷ []

-- the resolvers asked by these reads of the batch at 40, whose previous version is 30
abbrev pub asked_at_40 : ℕ → List (List (List ℕ))
asked_at_40 window = asked_by (of_window window) (after (of_window window) reads_long_after_a_move)

-- a range moves at 11: reads with snapshots up to 11 ask the old owner too, while the window
-- reaches back from 30 to 11, and no longer
abbrev pub HowFarBackOwnersAreRemembered : Type 0
HowFarBackOwnersAreRemembered =
    (asked_at_40 100 ≡ [] ∷ [] ∷ [] ∷ ((0 ∷ 1 ∷ []) ∷ (0 ∷ 1 ∷ []) ∷ (1 ∷ []) ∷ []) ∷ [])
    × (asked_at_40 19 ≡ [] ∷ [] ∷ [] ∷ ((0 ∷ 1 ∷ []) ∷ (0 ∷ 1 ∷ []) ∷ (1 ∷ []) ∷ []) ∷ [])
    × (asked_at_40 18 ≡ [] ∷ [] ∷ [] ∷ ((1 ∷ []) ∷ (1 ∷ []) ∷ (1 ∷ []) ∷ []) ∷ [])
