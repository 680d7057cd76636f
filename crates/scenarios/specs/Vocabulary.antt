-- The small values that scenarios speak of, beside those of the model's examples.
use Rattle.std.specs.Prelude.{ℕ, List, [], ◌∷◌, codes, true, false, Some, None}
use Rattle.system_keys.specs.declared.change.Change.{Change}
use Rattle.system_keys.specs.declared.change.Change.TheVariants as changes
use Rattle.system_keys.specs.declared.tag.Tag.{Tag}
use Rattle.system_keys.specs.Keys.{Key, only}
use Rattle.model.specs.Configs.{Config}
use Rattle.model.specs.declared.verdict.Verdict.{Verdict}
use Rattle.model.specs.declared.unseen.UnseenRow.{UnseenRow}
use Rattle.model.specs.declared.routing.Route.{Route}
use Rattle.model.specs.declared.outcome.Tagged.{Tagged}
use Rattle.model.specs.Stamps.{Set, AdmittedTransaction}
use Rattle.model.specs.Metadata.{tags}
use Rattle.model.specs.World.{World, Event, Offer, Answer, Again, initial_world, world_after}
use Rattle.model.specs.Examples.{cluster, blank, tag}

-- the world after some events from the start
abbrev pub after : Config → List Event → World
after config events = world_after config (initial_world config) events

-- a cluster with one proxy
abbrev pub one_proxy : Config
one_proxy = record cluster { proxies = 1 }

-- transactions of one range at a key
abbrev pub reading : ℕ → Key → AdmittedTransaction
reading snapshot key = record blank { snapshot = snapshot; reads = only key ∷ [] }

abbrev pub writing : Key → AdmittedTransaction
writing key = record blank { writes = only key ∷ [] }

-- a Set that also writes at its key
abbrev pub putting : Key → List ℕ → AdmittedTransaction
putting key value = record blank { writes = only key ∷ []; mutations = Set key value ∷ [] }

-- the same transaction, lock aware
abbrev pub lock_aware : AdmittedTransaction → AdmittedTransaction
lock_aware t = record t { lock_aware = true }

-- the requests for a row come to both resolvers
abbrev pub to_both : ℕ → List Event
to_both row = Offer row 0 ∷ Offer row 1 ∷ []

-- the same reply of a resolver, given again
abbrev pub again : (proxy row version resolver : ℕ) → List Verdict → List UnseenRow → Answer
again proxy row version resolver verdicts unseen =
    Again (record {
      resolver = resolver;
      proxy = proxy;
      row = row;
      version = version;
      verdicts = verdicts;
      unseen = unseen;
    })

-- a row without state transactions, as resolvers tell of it
abbrev pub empty_row : ℕ → UnseenRow
empty_row version = record { version = version; states = [] }

-- a row of one state transaction that sets one key, as resolver 0 and resolver 1 tell of it
abbrev pub set_row_by_0 : ℕ → Verdict → Change → UnseenRow
set_row_by_0 version verdict change =
    record {
      version = version;
      states = (record {
        verdict = verdict;
        carried = Some (record { mutations = change ∷ []; lock_aware = false });
      }) ∷ [];
    }

abbrev pub set_row_by_1 : ℕ → Verdict → UnseenRow
set_row_by_1 version verdict =
    record { version = version; states = (record { verdict = verdict; carried = None }) ∷ [] }

-- a mutation with its tags, of which no server gets a private copy
abbrev pub tagged : (number place : ℕ) → Change → List Tag → Tagged
tagged number place change tags =
    record { number = number; place = place; change = change; tags = tags; private = None }

-- the Set of a key with its tags, of which the server with tag `0:id` gets a private copy
abbrev pub copied : (number place : ℕ) → Key → (value : List ℕ) → List Tag → (id : ℕ) → Tagged
copied number place key value tags id =
    record {
      number = number;
      place = place;
      change = changes.Set key value;
      tags = tags;
      private = Some (record { key = 255 ∷ key; value = value; tag = tag id });
    }

abbrev pub s4 : Key
s4 = codes "server0000000004"

-- the value of the tag `0:id`
abbrev pub tag_bytes : ℕ → List ℕ
tag_bytes id = 0 ∷ 0 ∷ id ∷ []

abbrev pub route : Key → List Tag → Route
route key tags = record { key = key; tags = tags }
