-- The small values that edge cases and scenarios speak of: a cluster, keys, transactions, answers
-- and rows.
-- Unless a case says otherwise: two proxies, two resolvers, a window of 100 and a step of 10. A
-- transaction has snapshot 0, no ranges and no mutations, and is not lock aware.
use Rattle.std.specs.Prelude.{ℕ, List, [], ◌∷◌, ◌++◌, replicate, codes, Bool, false}
use Rattle.system_keys.specs.declared.change.Change.{Change}
use Rattle.system_keys.specs.declared.tag.Tag.{Tag}
use Rattle.system_keys.specs.Keys.{Key, Range}
use Rattle.system_keys.specs.Families.{metadata_version_family, key_servers_family}
use Rattle.system_keys.specs.Families.{server_tag_family}
use Rattle.system_keys.specs.ListedTags.{ListedTags}
use Rattle.model.specs.Configs.{Config}
use Rattle.model.specs.declared.part.Part.{Part}
use Rattle.model.specs.declared.verdict.Verdict.{Verdict}
use Rattle.model.specs.declared.verdict.Verdict.TheVariants.{Committed}
use Rattle.model.specs.declared.journal.StateTxn.{StateTxn}
use Rattle.model.specs.declared.journal.JournalRow.{JournalRow}
use Rattle.model.specs.declared.unseen.UnseenRow.{UnseenRow}
use Rattle.model.specs.declared.outcome.Outcome.{Outcome}
use Rattle.model.specs.declared.outcome.Tagged.{Tagged}
use Rattle.model.specs.Stamps.{Mutation, AdmittedTransaction}
use Rattle.model.specs.World.{Event, Answer, FinishedBatch, initial_world, answers}
use Rattle.model.specs.World as world

-- the cluster of most cases
abbrev pub cluster : Config
cluster = record { proxies = 2; resolvers = 2; window = 100; step = 10 }

-- the answers to some events from the start
abbrev pub told : Config → List Event → List Answer
told config events = answers config (initial_world config) events

-- keys
abbrev pub a : Key
a = codes "a"

abbrev pub b : Key
b = codes "b"

abbrev pub m : Key
m = codes "m"

abbrev pub n : Key
n = codes "n"

-- the keys from one up to another
abbrev pub range : Key → Key → Range
range begin end = record { begin = begin; end = end }

-- the keys that move in the scenarios of moves
abbrev pub m_to_t : Range
m_to_t = range (codes "m") (codes "t")

-- a transaction of nothing
abbrev pub blank : AdmittedTransaction
blank = record { snapshot = 0; reads = []; writes = []; mutations = []; lock_aware = false }

-- a transaction of these mutations alone
abbrev pub mutating : List Mutation → AdmittedTransaction
mutating mutations = record blank { mutations = mutations }

-- a resolver's first reply to the request for a row of a proxy, at this version
abbrev pub judged : (proxy row version resolver : ℕ) → List Verdict → List UnseenRow → Answer
judged proxy row version resolver verdicts unseen =
    world.Judged (record {
      resolver = resolver;
      proxy = proxy;
      row = row;
      version = version;
      verdicts = verdicts;
      unseen = unseen;
    })

-- the answer to a finish
abbrev pub completed : (row version : ℕ) → List Outcome → List Tagged → Answer
completed row version outcomes tagged =
    FinishedBatch (record { row = row; version = version; outcomes = outcomes; tagged = tagged })

-- the tags `0:1`, `0:2`, ..
abbrev pub tag : ℕ → Tag
tag id = record { locality = 0; id = id }

-- the servers `server0000000001`, `server0000000002`, ..
abbrev pub s1 : Key
s1 = codes "server0000000001"

abbrev pub s2 : Key
s2 = codes "server0000000002"

abbrev pub s3 : Key
s3 = codes "server0000000003"

-- the values of keyServers rows with one source, and with one source and one destination
abbrev pub one_source : Key → List ℕ
one_source s = 1 ∷ s ++ 0 ∷ []

abbrev pub source_and_destination : Key → Key → List ℕ
source_and_destination s d = 1 ∷ s ++ 1 ∷ d

-- the value of a keyServers row that lists the source tags `0:1` and `0:2` and the destination tag
-- `3:258`, and these tags
abbrev pub listing : List ℕ
listing = 0 ∷ 0 ∷ 2 ∷ 0 ∷ 0 ∷ 1 ∷ 0 ∷ 0 ∷ 2 ∷ 1 ∷ 3 ∷ 1 ∷ 2 ∷ []

abbrev pub far_tag : Tag
far_tag = record { locality = 3; id = 258 }

abbrev pub listed : ListedTags
listed = record { sources = tag 1 ∷ tag 2 ∷ []; destinations = far_tag ∷ [] }

-- the keys of metadata rows: a server's tag, the servers from a key on, and the metadata version
abbrev pub tag_row : Key → Key
tag_row s = server_tag_family.prefix ++ s

abbrev pub servers_row : Key → Key
servers_row key = key_servers_family.prefix ++ key

abbrev pub version_row : Key
version_row = metadata_version_family.prefix

-- a part of a share
abbrev pub part : ℕ → ℕ → List Range → List Range → Part
part number snapshot reads writes =
    record { number = number; snapshot = snapshot; reads = reads; writes = writes }

-- a state transaction that each of these resolvers committed
abbrev pub committed_by : ℕ → Bool → List Change → StateTxn
committed_by resolvers lock_aware mutations =
    record {
      mutations = mutations;
      lock_aware = lock_aware;
      verdicts = replicate resolvers Committed;
    }

-- a row of the journal
abbrev pub journal_row_of : ℕ → List StateTxn → JournalRow
journal_row_of version states = record { version = version; states = states }
