-- The tags of a Clear.
use Rattle.std.specs.Prelude.{◌≡◌, ℕ, List, [], ◌∷◌, ◌++◌, codes, false, None}
use Rattle.system_keys.specs.declared.change.Change.TheVariants as changes
use Rattle.system_keys.specs.declared.tag.Tag.{Tag}
use Rattle.system_keys.specs.Keys.{Range}
use Rattle.model.specs.declared.verdict.Verdict.{Verdict}
use Rattle.model.specs.declared.verdict.Verdict.TheVariants.{Committed}
use Rattle.model.specs.declared.outcome.Outcome.TheVariants as outcomes
use Rattle.model.specs.declared.outcome.Tagged.{Tagged}
use Rattle.model.specs.Stamps.{Mutation, Set, Clear, AdmittedTransaction}
use Rattle.model.specs.Metadata.{tags}
use Rattle.model.specs.World.{Event, Sequence, Finish, Answer, Sequenced, proxy_routing}
use Rattle.model.specs.Examples.{cluster, told, a, b, range, mutating, judged, completed, tag, s1}
use Rattle.model.specs.Examples.{s2, s3, one_source, source_and_destination, tag_row, servers_row}
use Rattle.scenarios.specs.Vocabulary.{after, lock_aware, to_both, tagged, copied, s4, tag_bytes}

abbrev pub four_servers : List Mutation
four_servers =
    Set (tag_row s1) (tag_bytes 1) ∷ Set (tag_row s2) (tag_bytes 2) ∷ Set (tag_row s3) (tag_bytes 3)
    ∷ Set (tag_row s4) (tag_bytes 4)
    ∷ Set (servers_row []) (one_source s1) ∷ Set (servers_row b) (one_source s2)
    ∷ Set (servers_row (codes "f")) (source_and_destination s1 s3)
    ∷ Set (servers_row (codes "q")) (one_source s4) ∷ []

abbrev pub last_tags : List Tag
last_tags = tag 4 ∷ []

-- the mutations of that transaction, all with the tag of the last keyServers row; the server of each
-- serverTag row gets a private copy
abbrev pub four_servers_set : List Tagged
four_servers_set =
    copied 0 0 (tag_row s1) (tag_bytes 1) last_tags 1
    ∷ copied 0 1 (tag_row s2) (tag_bytes 2) last_tags 2
    ∷ copied 0 2 (tag_row s3) (tag_bytes 3) last_tags 3
    ∷ copied 0 3 (tag_row s4) (tag_bytes 4) last_tags 4
    ∷ tagged 0 4 (changes.Set (servers_row []) (one_source s1)) last_tags
    ∷ tagged 0 5 (changes.Set (servers_row b) (one_source s2)) last_tags
    ∷ tagged 0 6 (changes.Set (servers_row (codes "f")) (source_and_destination s1 s3)) last_tags
    ∷ tagged 0 7 (changes.Set (servers_row (codes "q")) (one_source s4)) last_tags ∷ []

-- proxy 0 commits a batch of one transaction
abbrev pub alone : ℕ → AdmittedTransaction → List Event
alone row t = Sequence 0 (t ∷ []) ∷ to_both row ++ Finish 0 ∷ []

-- the answers: its verdicts by both resolvers, none if it asks none, and its mutations with their
-- tags
abbrev pub told_alone : (row version : ℕ) → List Verdict → List Tagged → List Answer
told_alone row version verdicts mutations =
    Sequenced row version ∷ judged 0 row version 0 verdicts [] ∷ judged 0 row version 1 verdicts []
    ∷ completed row version (outcomes.Committed version 0 ∷ []) mutations ∷ []

abbrev pub all_users : Range
all_users = range a (255 ∷ [])

abbrev pub all_routes : Range
all_routes = range (servers_row []) (255 ∷ codes "/keyServers0")

-- a Clear has the tags of every keyServers row that it touches; tags come from the metadata after
-- the batch, so a Clear of these rows has none
abbrev pub TheTagsOfAClear : Type 0
TheTagsOfAClear =
    told cluster (alone 0 (mutating four_servers) ++ alone 1 (mutating (Clear all_users ∷ []))
    ++ alone 2 (lock_aware (mutating (Set a [] ∷ Clear all_routes ∷ []))))
    ≡ told_alone 0 10 (Committed ∷ []) four_servers_set
    ++ told_alone 1 20 []
    (tagged 0 0 (changes.Clear all_users) (tag 1 ∷ tag 2 ∷ tag 3 ∷ tag 4 ∷ []) ∷ [])
    ++ told_alone 2 30 (Committed ∷ [])
    (tagged 0 0 (changes.Set a []) [] ∷ tagged 0 1 (changes.Clear all_routes) [] ∷ [])

abbrev pub everything : Range
everything = range [] (255 ∷ 255 ∷ [])

abbrev pub clear_of_everything : List Event
clear_of_everything =
    alone 0 (mutating four_servers) ++ alone 1 (lock_aware (mutating (Clear everything ∷ [])))

-- a Clear of all keys leaves no entry
abbrev pub AClearOfEverything : Type 0
AClearOfEverything =
    (told cluster clear_of_everything
    ≡ told_alone 0 10 (Committed ∷ []) four_servers_set
    ++ told_alone 1 20 (Committed ∷ []) (tagged 0 0 (changes.Clear everything) [] ∷ []))
    × (proxy_routing cluster (after cluster clear_of_everything) 0
    ≡ record { version = 20; locked = false; metadata_version = None; routes = [] })
