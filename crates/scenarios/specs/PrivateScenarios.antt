-- The private copies of a batch.
use Rattle.std.specs.Prelude.{◌≡◌, List, [], ◌∷◌, ◌++◌, codes}
use Rattle.system_keys.specs.declared.change.Change.TheVariants as changes
use Rattle.system_keys.specs.Keys.{Key, Range}
use Rattle.model.specs.declared.verdict.Verdict.TheVariants.{Committed}
use Rattle.model.specs.declared.outcome.Outcome.TheVariants as outcomes
use Rattle.model.specs.declared.outcome.Tagged.{Tagged}
use Rattle.model.specs.Stamps.{Mutation, Set, Clear}
use Rattle.model.specs.World.{Event, Sequence, Finish, Answer, Sequenced}
use Rattle.model.specs.Examples.{cluster, told, m, range, mutating, judged, completed, s1, s2}
use Rattle.model.specs.Examples.{tag_row}
use Rattle.scenarios.specs.Vocabulary.{to_both, tagged, copied, tag_bytes}

-- the key of the row that says that a server has the keys from this one on
abbrev pub keys_row : Key → Key → Key
keys_row server key = 255 ∷ codes "/serverKeys/" ++ server ++ codes "/" ++ key

-- proxy 0 commits a batch of one transaction
abbrev pub committing : List Mutation → List Event
committing mutations = Sequence 0 (mutating mutations ∷ []) ∷ to_both 0 ++ Finish 0 ∷ []

abbrev pub told_committed : List Tagged → List Answer
told_committed mutations =
    Sequenced 0 10 ∷ judged 0 0 10 0 (Committed ∷ []) [] ∷ judged 0 0 10 1 (Committed ∷ []) []
    ∷ completed 0 10 (outcomes.Committed 10 0 ∷ []) mutations ∷ []

-- a server whose tag the batch sets gets its serverKeys rows, and one without a tag gets none
abbrev pub OnlyServersWithATagGetCopies : Type 0
OnlyServersWithATagGetCopies =
    told cluster
    (committing
    (Set (tag_row s1) (tag_bytes 1) ∷ Set (keys_row s1 m) (codes "1")
    ∷ Set (keys_row s2 m) (codes "1") ∷ []))
    ≡ told_committed
    (copied 0 0 (tag_row s1) (tag_bytes 1) [] 1 ∷ copied 0 1 (keys_row s1 m) (codes "1") [] 1
    ∷ tagged 0 2 (changes.Set (keys_row s2 m) (codes "1")) [] ∷ [])

-- the row's key without its slash, and with a server's id that lacks a byte
abbrev pub unslashed_row : Key
unslashed_row = 255 ∷ codes "/serverKeys/" ++ s1 ++ m

abbrev pub short_id_row : Key
short_id_row = 255 ∷ codes "/serverKeys/server000000001/m"

-- keys that are almost those of serverKeys rows get no copies
abbrev pub OtherKeysGetNoCopies : Type 0
OtherKeysGetNoCopies =
    told cluster
    (committing
    (Set (tag_row s1) (tag_bytes 1) ∷ Set unslashed_row (codes "1")
    ∷ Set short_id_row (codes "1") ∷ []))
    ≡ told_committed
    (copied 0 0 (tag_row s1) (tag_bytes 1) [] 1
    ∷ tagged 0 1 (changes.Set unslashed_row (codes "1")) []
    ∷ tagged 0 2 (changes.Set short_id_row (codes "1")) [] ∷ [])

-- so it is if the batch sets the tag after them: the tag is that after the whole batch
abbrev pub TheTagAfterTheBatchIsTaken : Type 0
TheTagAfterTheBatchIsTaken =
    told cluster
    (committing
    (Set (keys_row s1 m) (codes "1") ∷ Set (tag_row s1) (tag_bytes 1)
    ∷ Set (keys_row s2 m) (codes "1") ∷ []))
    ≡ told_committed
    (copied 0 0 (keys_row s1 m) (codes "1") [] 1 ∷ copied 0 1 (tag_row s1) (tag_bytes 1) [] 1
    ∷ tagged 0 2 (changes.Set (keys_row s2 m) (codes "1")) [] ∷ [])

-- the keys of all serverTag rows
abbrev pub all_tag_rows : Range
all_tag_rows = range (tag_row []) (255 ∷ codes "/serverTag0")

-- a Set of a serverTag row has the copy for the tag that it sets, whatever the batch sets or clears
-- later; a Clear has none, and after it the server has no tag
abbrev pub AClearedTagGetsNoCopies : Type 0
AClearedTagGetsNoCopies =
    told cluster
    (committing
    (Set (tag_row s1) (tag_bytes 1) ∷ Set (tag_row s1) (tag_bytes 2)
    ∷ Set (keys_row s1 m) (codes "1") ∷ Clear all_tag_rows ∷ []))
    ≡ told_committed
    (copied 0 0 (tag_row s1) (tag_bytes 1) [] 1 ∷ copied 0 1 (tag_row s1) (tag_bytes 2) [] 2
    ∷ tagged 0 2 (changes.Set (keys_row s1 m) (codes "1")) []
    ∷ tagged 0 3 (changes.Clear all_tag_rows) [] ∷ [])
