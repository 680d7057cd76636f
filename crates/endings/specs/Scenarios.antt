-- Scenarios: a small cluster whose work is done in several orders. It is the cluster of the model's
-- examples: two proxies, two resolvers, a step of 10.
use Rattle.std.specs.Prelude.{◌≡◌, ℕ, List, [], ◌∷◌, ◌++◌, map, replicate, true, false}
use Rattle.std.specs.Prelude.{Some, None}
use Rattle.std.specs.List.{list_all}
use Rattle.system_keys.specs.declared.change.Change.{Change}
use Rattle.system_keys.specs.declared.change.Change.TheVariants as changes
use Rattle.model.specs.Numbers.{ProxyNumber, ResolverNumber, Version}
use Rattle.model.specs.declared.reply.Reply.{Reply}
use Rattle.model.specs.declared.unseen.UnseenRow.{UnseenRow}
use Rattle.model.specs.declared.verdict.Verdict.TheVariants.{Committed}
use Rattle.model.specs.declared.outcome.Outcome.TheVariants as outcomes
use Rattle.model.specs.Stamps.{Set}
use Rattle.model.specs.Records.{Record}
use Rattle.model.specs.World.{World, Event, Sequence, Offer, Finish, Answer, Again, Refused, Early}
use Rattle.model.specs.World.{MissingReply, initial_world, answers, world_after, proxy_metadata}
use Rattle.model.specs.World.{remembered_by}
use Rattle.model.specs.World as world
use Rattle.model.specs.Examples.{cluster, mutating, completed, version_row}
use Rattle.endings.specs.Work.{is_done, work_left}
use Rattle.endings.specs.Distances.{rows_known, rows_reached}
use Rattle.endings.specs.Fairness.{joined, round}
use Rattle.endings.specs.EventsLeft.{events_left}

-- the world after some events from the start
abbrev pub after : List Event → World
after events = world_after cluster (initial_world cluster) events

-- ---- two orders

-- the mutation of the only transaction: it sets the metadata version
abbrev pub setting : Change
setting = changes.Set version_row (7 ∷ [])

-- proxy 0 sequences a batch that changes the metadata, and proxy 1 an empty one
abbrev pub sequenced : World
sequenced =
    after (Sequence 0 (mutating (Set version_row (7 ∷ []) ∷ []) ∷ []) ∷ Sequence 1 [] ∷ [])

-- resolver r commits the transaction of row 0
abbrev pub first_reply : (r : ResolverNumber) → Reply
first_reply r =
    record {
      resolver = r;
      proxy = 0;
      row = 0;
      version = 10;
      verdicts = Committed ∷ [];
      unseen = [];
    }

-- row 0 as the resolvers reply it to proxy 1, which has not seen it
abbrev pub row_by_0 : UnseenRow
row_by_0 =
    record {
      version = 10;
      states = (record {
        verdict = Committed;
        carried = Some (record { mutations = setting ∷ []; lock_aware = false });
      }) ∷ [];
    }

abbrev pub row_by_1 : UnseenRow
row_by_1 =
    record { version = 10; states = (record { verdict = Committed; carried = None }) ∷ [] }

-- the reply of resolver r to row 1, with that row
abbrev pub second_reply : (r : ResolverNumber) → UnseenRow → Reply
second_reply r row =
    record {
      resolver = r;
      proxy = 1;
      row = 1;
      version = 20;
      verdicts = [];
      unseen = row ∷ [];
    }

-- the finished batches
abbrev pub first_finished : Answer
first_finished =
    completed 0 10 (outcomes.Committed 10 0 ∷ [])
    ((record { number = 0; place = 0; change = setting; tags = []; private = None }) ∷ [])

abbrev pub second_finished : Answer
second_finished = completed 1 20 [] []

-- row by row, and then the finishes
abbrev pub in_order : List Event
in_order = Offer 0 0 ∷ Offer 0 1 ∷ Offer 1 0 ∷ Offer 1 1 ∷ Finish 0 ∷ Finish 1 ∷ []

-- a finish and an offer that come too early, an offer twice, and the later batch finished first
abbrev pub mixed : List Event
mixed =
    Finish 1 ∷ Offer 1 0 ∷ Offer 0 1 ∷ Offer 1 1 ∷ Offer 0 0 ∷ Offer 0 0 ∷ Offer 1 0 ∷ Finish 1
    ∷ Finish 0 ∷ []

-- two orders have other answers, but the same replies, the same finished batches and the same end
abbrev pub TwoOrdersEndAlike : Type 0
TwoOrdersEndAlike =
    (answers cluster sequenced in_order
    ≡ world.Judged (first_reply 0)
    ∷ world.Judged (first_reply 1)
    ∷ world.Judged (second_reply 0 row_by_0)
    ∷ world.Judged (second_reply 1 row_by_1)
    ∷ first_finished
    ∷ second_finished
    ∷ [])
    × (answers cluster sequenced mixed
    ≡ Refused (MissingReply 0)
    ∷ Refused (Early 0)
    ∷ world.Judged (first_reply 1)
    ∷ world.Judged (second_reply 1 row_by_1)
    ∷ world.Judged (first_reply 0)
    ∷ Again (first_reply 0)
    ∷ world.Judged (second_reply 0 row_by_0)
    ∷ second_finished
    ∷ first_finished
    ∷ [])
    × (world_after cluster sequenced in_order ≡ world_after cluster sequenced mixed)
    × (map (proxy_metadata cluster (world_after cluster sequenced mixed)) (0 ∷ 1 ∷ [])
    ≡ ((version_row, 7 ∷ []) ∷ []) ∷ ((version_row, 7 ∷ []) ∷ []) ∷ [])

-- ---- what a proxy waits for

-- how much work is left after some events
abbrev pub left_after : World → List Event → ℕ
left_after w events = work_left cluster (world_after cluster w events)

abbrev pub tries : List Event
tries = Finish 0 ∷ Offer 0 0 ∷ Finish 0 ∷ Offer 0 1 ∷ Finish 0 ∷ []

-- the refusal of a finish names the resolver whose reply is missing, until both have judged the row;
-- each event that is done takes one from the work that is left, and a refused one takes none
abbrev pub AProxyWaitsForAResolver : Type 0
AProxyWaitsForAResolver =
    (answers cluster sequenced tries
    ≡ Refused (MissingReply 0)
    ∷ world.Judged (first_reply 0)
    ∷ Refused (MissingReply 1)
    ∷ world.Judged (first_reply 1)
    ∷ first_finished
    ∷ [])
    × (left_after sequenced [] ≡ 6)
    × (left_after sequenced (Finish 0 ∷ []) ≡ 6)
    × (left_after sequenced (Finish 0 ∷ Offer 0 0 ∷ []) ≡ 5)
    × (left_after sequenced tries ≡ 3)

-- ---- what is left

-- all of it at first, row by row; what is done is left out; and at the end nothing is left
abbrev pub WhatIsLeftInOrder : Type 0
WhatIsLeftInOrder =
    (events_left cluster sequenced ≡ in_order)
    × (events_left cluster (world_after cluster sequenced (Offer 0 1 ∷ []))
    ≡ Offer 0 0 ∷ Offer 1 0 ∷ Offer 1 1 ∷ Finish 0 ∷ Finish 1 ∷ [])
    × (events_left cluster (world_after cluster sequenced tries)
    ≡ Offer 1 0 ∷ Offer 1 1 ∷ Finish 1 ∷ [])
    × (events_left cluster (world_after cluster sequenced mixed) ≡ [])

-- ---- what is remembered

-- an empty batch of proxy p, of this row, judged and finished
abbrev pub whole : (p : ProxyNumber) (row : ℕ) → List Event
whole p row = Sequence p [] ∷ Offer row 0 ∷ Offer row 1 ∷ Finish p ∷ []

abbrev pub one_is_slow : World
one_is_slow = after (whole 1 0 ++ whole 0 1 ++ whole 0 2 ++ whole 0 3)

abbrev pub versions_of : List Record → List Version
versions_of records = map (λ (rec : Record). rec.version) records

-- proxy 1 knows row 0 alone, though all records are finished: the resolvers remember the others for it
abbrev pub RowsRememberedForTheSlowest : Type 0
RowsRememberedForTheSlowest =
    (map (rows_known one_is_slow) (0 ∷ 1 ∷ []) ≡ 4 ∷ 1 ∷ [])
    × (map (rows_reached one_is_slow 0) (0 ∷ 1 ∷ []) ≡ 4 ∷ 1 ∷ [])
    × (work_left cluster one_is_slow ≡ 0)
    × (versions_of (remembered_by cluster one_is_slow 0) ≡ 20 ∷ 30 ∷ 40 ∷ [])

-- ---- rounds

-- in one round every event is done, and nothing is left
abbrev pub OneRoundIsEnough : Type 0
OneRoundIsEnough =
    (list_all is_done (answers cluster sequenced (round cluster 2)) ≡ true)
    × (left_after sequenced (round cluster 2) ≡ 0)

-- three empty batches
abbrev pub three_sequenced : World
three_sequenced = after (Sequence 0 [] ∷ Sequence 1 [] ∷ Sequence 0 [] ∷ [])

-- every finish, and then every offer, from the last row down
abbrev pub reverse_round : List Event
reverse_round =
    Finish 0 ∷ Finish 1 ∷ Offer 2 0 ∷ Offer 2 1 ∷ Offer 1 0 ∷ Offer 1 1 ∷ Offer 0 0 ∷ Offer 0 1 ∷ []

-- rounds in the worst order take exactly one more than there are rows
abbrev pub RoundsInReverseTakeOneMoreThanRows : Type 0
RoundsInReverseTakeOneMoreThanRows =
    map (λ (n : ℕ). left_after three_sequenced (joined (replicate n reverse_round)))
    (0 ∷ 1 ∷ 2 ∷ 3 ∷ 4 ∷ [])
    ≡ 9 ∷ 7 ∷ 4 ∷ 1 ∷ 0 ∷ []
