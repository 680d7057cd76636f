-- The lock over two proxies.
use Rattle.std.specs.Prelude.{◌≡◌, ℕ, List, [], ◌∷◌, ◌++◌, map, codes, true, nat_eq, if◌then◌else◌}
use Rattle.std.specs.Prelude.{Some, None}
use Rattle.system_keys.specs.declared.change.Change.TheVariants as changes
use Rattle.system_keys.specs.Keys.{only}
use Rattle.model.specs.Configs.{Config}
use Rattle.model.specs.declared.verdict.Verdict.{Verdict}
use Rattle.model.specs.declared.verdict.Verdict.TheVariants.{Conflict, TooOld, Committed}
use Rattle.model.specs.declared.unseen.UnseenRow.{UnseenRow}
use Rattle.model.specs.declared.outcome.Outcome.{Outcome}
use Rattle.model.specs.declared.outcome.Outcome.TheVariants as outcomes
use Rattle.model.specs.Stamps.{Set, Clear, AdmittedTransaction}
use Rattle.model.specs.Transactions.{locked_key}
use Rattle.model.specs.World.{Event, Sequence, Finish, Answer, Sequenced, proxy_metadata}
use Rattle.model.specs.Examples.{cluster, told, a, b, mutating, judged, completed, s1, tag_row}
use Rattle.scenarios.specs.Vocabulary.{after, putting, lock_aware, to_both, set_row_by_0}
use Rattle.scenarios.specs.Vocabulary.{set_row_by_1, tagged, tag_bytes}

-- a lock-aware transaction locks the database, and a plain one stands behind it in the batch
abbrev pub locking : List AdmittedTransaction
locking = lock_aware (putting locked_key (codes "L")) ∷ putting a (codes "1") ∷ []

abbrev pub lock_over_two_proxies : List Event
lock_over_two_proxies =
    Sequence 0 locking ∷ Sequence 1 (putting b (codes "1") ∷ []) ∷ to_both 0 ++ to_both 1
    ++ Finish 0 ∷ Finish 1 ∷ []

abbrev pub locking_row_by_0 : UnseenRow
locking_row_by_0 =
    record {
      version = 10;
      states = (record {
        verdict = Committed;
        carried = Some (record {
          mutations = changes.Set locked_key (codes "L") ∷ [];
          lock_aware = true;
        });
      }) ∷ [];
    }

-- the lock does not refuse its own batch, and refuses the other proxy's
abbrev pub TheLockOverTwoProxies : Type 0
TheLockOverTwoProxies =
    told cluster lock_over_two_proxies
    ≡ Sequenced 0 10
    ∷ Sequenced 1 20
    ∷ judged 0 0 10 0 (Committed ∷ Committed ∷ []) []
    ∷ judged 0 0 10 1 (Committed ∷ []) []
    ∷ judged 1 1 20 0 (Committed ∷ []) (locking_row_by_0 ∷ [])
    ∷ judged 1 1 20 1 [] (set_row_by_1 10 Committed ∷ [])
    ∷ completed 0 10 (outcomes.Committed 10 0 ∷ outcomes.Committed 10 1 ∷ [])
    (tagged 0 0 (changes.Set locked_key (codes "L")) [] ∷ tagged 1 0 (changes.Set a (codes "1")) []
    ∷ [])
    ∷ completed 1 20 (outcomes.Locked ∷ []) []
    ∷ []

-- the lock at 10, a state transaction of proxy 1 at 20 that read at this snapshot, and an empty
-- batch of proxy 0 at 30
abbrev pub under_the_lock : ℕ → List Event
under_the_lock snapshot =
    Sequence 0 locking
    ∷ Sequence 1 ((record (mutating (Set (tag_row s1) (tag_bytes 1) ∷ [])) { snapshot = snapshot })
    ∷ []) ∷ Sequence 0 []
    ∷ to_both 0 ++ to_both 1 ++ to_both 2 ++ Finish 0 ∷ Finish 1 ∷ Finish 0 ∷ []

abbrev pub told_under_the_lock : Verdict → Outcome → List Answer
told_under_the_lock verdict_of_0 outcome =
    Sequenced 0 10
    ∷ Sequenced 1 20
    ∷ Sequenced 2 30
    ∷ judged 0 0 10 0 (Committed ∷ Committed ∷ []) []
    ∷ judged 0 0 10 1 (Committed ∷ []) []
    ∷ judged 1 1 20 0 (verdict_of_0 ∷ []) (locking_row_by_0 ∷ [])
    ∷ judged 1 1 20 1 (Committed ∷ []) (set_row_by_1 10 Committed ∷ [])
    ∷ judged 0 2 30 0 []
    (set_row_by_0 20 verdict_of_0 (changes.Set (tag_row s1) (tag_bytes 1)) ∷ [])
    ∷ judged 0 2 30 1 [] (set_row_by_1 20 Committed ∷ [])
    ∷ completed 0 10 (outcomes.Committed 10 0 ∷ outcomes.Committed 10 1 ∷ [])
    (tagged 0 0 (changes.Set locked_key (codes "L")) [] ∷ tagged 1 0 (changes.Set a (codes "1")) []
    ∷ [])
    ∷ completed 1 20 (outcome ∷ []) []
    ∷ completed 2 30 [] []
    ∷ []

-- a state transaction that is not lock aware is refused by the lock at its own proxy, and not
-- applied at the other; with a snapshot before the lock it is a conflict
abbrev pub AStateTransactionUnderTheLock : Type 0
AStateTransactionUnderTheLock =
    (told cluster (under_the_lock 10) ≡ told_under_the_lock Committed outcomes.Locked)
    × (map (proxy_metadata cluster (after cluster (under_the_lock 10))) (0 ∷ 1 ∷ [])
    ≡ ((locked_key, codes "L") ∷ []) ∷ ((locked_key, codes "L") ∷ []) ∷ [])
    × (told cluster (under_the_lock 9) ≡ told_under_the_lock Conflict outcomes.Conflict)

abbrev pub unlocking : List Event
unlocking =
    Sequence 0 locking ∷ Sequence 1 (lock_aware (mutating (Clear (only locked_key) ∷ [])) ∷ [])
    ∷ Sequence 0 (putting b (codes "1") ∷ [])
    ∷ to_both 0 ++ to_both 1 ++ to_both 2 ++ Finish 0 ∷ Finish 1 ∷ Finish 0 ∷ []

abbrev pub unlocking_row : ℕ → UnseenRow
unlocking_row r =
    record {
      version = 20;
      states = (record {
        verdict = Committed;
        carried = if nat_eq r 0
            then
            Some (record {
              mutations = changes.Clear (only locked_key) ∷ [];
              lock_aware = true;
            })
            else None;
      }) ∷ [];
    }

-- a lock-aware transaction passes the lock and takes it off, and the next plain one passes
abbrev pub TheLockIsTakenOff : Type 0
TheLockIsTakenOff =
    (told cluster unlocking
    ≡ Sequenced 0 10
    ∷ Sequenced 1 20
    ∷ Sequenced 2 30
    ∷ judged 0 0 10 0 (Committed ∷ Committed ∷ []) []
    ∷ judged 0 0 10 1 (Committed ∷ []) []
    ∷ judged 1 1 20 0 (Committed ∷ []) (locking_row_by_0 ∷ [])
    ∷ judged 1 1 20 1 (Committed ∷ []) (set_row_by_1 10 Committed ∷ [])
    ∷ judged 0 2 30 0 (Committed ∷ []) (unlocking_row 0 ∷ [])
    ∷ judged 0 2 30 1 [] (unlocking_row 1 ∷ [])
    ∷ completed 0 10 (outcomes.Committed 10 0 ∷ outcomes.Committed 10 1 ∷ [])
    (tagged 0 0 (changes.Set locked_key (codes "L")) [] ∷ tagged 1 0 (changes.Set a (codes "1")) []
    ∷ [])
    ∷ completed 1 20 (outcomes.Committed 20 0 ∷ [])
    (tagged 0 0 (changes.Clear (only locked_key)) [] ∷ [])
    ∷ completed 2 30 (outcomes.Committed 30 0 ∷ []) (tagged 0 0 (changes.Set b (codes "1")) [] ∷ [])
    ∷ [])
    × (map (proxy_metadata cluster (after cluster unlocking)) (0 ∷ 1 ∷ []) ≡ [] ∷ [] ∷ [])

abbrev pub short_window : Config
short_window = record cluster { window = 5 }

abbrev pub too_old_under_the_lock : List Event
too_old_under_the_lock =
    Sequence 0 locking
    ∷ Sequence 1 ((record (putting b (codes "1")) { snapshot = 10; reads = only b ∷ [] })
    ∷ putting b (codes "2") ∷ [])
    ∷ to_both 0 ++ to_both 1 ++ Finish 0 ∷ Finish 1 ∷ []

-- of two transactions under the lock the one that is too old is told so, and neither's mutation
-- goes on
abbrev pub TooOldUnderTheLock : Type 0
TooOldUnderTheLock =
    told short_window too_old_under_the_lock
    ≡ Sequenced 0 10
    ∷ Sequenced 1 20
    ∷ judged 0 0 10 0 (Committed ∷ Committed ∷ []) []
    ∷ judged 0 0 10 1 (Committed ∷ []) []
    ∷ judged 1 1 20 0 (TooOld ∷ Committed ∷ []) (locking_row_by_0 ∷ [])
    ∷ judged 1 1 20 1 [] (set_row_by_1 10 Committed ∷ [])
    ∷ completed 0 10 (outcomes.Committed 10 0 ∷ outcomes.Committed 10 1 ∷ [])
    (tagged 0 0 (changes.Set locked_key (codes "L")) [] ∷ tagged 1 0 (changes.Set a (codes "1")) []
    ∷ [])
    ∷ completed 1 20 (outcomes.TooOld ∷ outcomes.Locked ∷ []) []
    ∷ []
