-- The routings that a locked proxy returns are those of the records and cells that it knows.
use Rattle.std.proofs.Common.{◌≡◌, refl, sym, ap, ◌∙◌, ℕ, ◌≤◌, List, length, arith}
use Rattle.model.specs.Configs.{Config}
use Rattle.model.specs.declared.journal.JournalRow.{JournalRow}
use Rattle.model.specs.declared.routing.Routing.{Routing}
use Rattle.model.specs.Metadata.{Entries, metadata, routing}
use Rattle.model.specs.Journal.{history_verdicts, journal}
use Rattle.model.specs.World.{up_to_version}
use Rattle.model.proofs.Agreement.Holders.{rows_up_to_version}
use Rattle.proxy_state.specs.Beginning.{rows_up_to}
use Rattle.locked_cluster.specs.Answers.{IsNotedRouting, NotedRoutingView}
use Rattle.locked_cluster.specs.Proxies.{LockedProxyView, IsLockedProxy, ShowsRouting}
use Rattle.locked_cluster.proofs.ProxyRows.{all_up_to, journal_of, known_records}

-- a routing is of the version that it was asked for
version_of : (version : ℕ) (entries : Entries) → (routing version entries).version ≡ version
unfolding routing
version_of version entries = refl

-- the rows of the journal up to a version are those of the known records up to it
pub rows_then : (config : Config) (v : LockedProxyView) (version : ℕ) → IsLockedProxy config v → rows_up_to version v.proxy.journal ≡ journal config (history_verdicts config (known_records v)) (up_to_version version (known_records v))
rows_then config v version keeps = ap (rows_up_to version) (journal_of config v keeps) ∙ rows_up_to_version config (history_verdicts config (known_records v)) (known_records v) version

pub is_routing : (config : Config) (v : LockedProxyView) (version : ℕ) (found : Routing) → IsLockedProxy config v → version ≤ v.proxy.version → found ≡ routing version (metadata (rows_up_to version v.proxy.journal)) → IsNotedRouting config (record { routing = found; records = v.records; columns = v.columns })
is_routing config v version found keeps reached is =
    record {
      rows = length v.proxy.journal;
      agreed = keeps.agreed;
      verdicts = keeps.verdicts;
      reached = let last = keeps.version in omega (arith, own, reached, last);
      routing_is =
          is
          ∙ ap (λ (rows : List JournalRow). routing version (metadata rows)) (rows_then config v version keeps)
          ∙ ap (λ (w : ℕ). routing w (metadata (journal config (history_verdicts config (known_records v)) (up_to_version w (known_records v))))) (sym own);
    }
  where
    own : found.version ≡ version
    own = ap (λ (r : Routing). r.version) is ∙ version_of version (metadata (rows_up_to version v.proxy.journal))

-- all rows of the journal are of versions up to the proxy's
pub own_rows : (config : Config) (v : LockedProxyView) → IsLockedProxy config v → rows_up_to v.proxy.version v.proxy.journal ≡ v.proxy.journal
own_rows config v keeps =
    rows_then config v v.proxy.version keeps ∙ ap (journal config (history_verdicts config (known_records v))) (all_up_to config v keeps) ∙ sym (journal_of config v keeps)

pub is_own_routing : (config : Config) (v : LockedProxyView) (found : Routing) → IsLockedProxy config v → found ≡ routing v.proxy.version (metadata v.proxy.journal) → IsNotedRouting config (record { routing = found; records = v.records; columns = v.columns })
is_own_routing config v found keeps is =
    is_routing config v v.proxy.version found keeps (omega arith) (is ∙ ap (λ (rows : List JournalRow). routing v.proxy.version (metadata rows)) (sym (own_rows config v keeps)))

pub shows_routing : (v : LockedProxyView) (version : ℕ) (rows : List JournalRow) (found : Routing) (noted : NotedRoutingView) → version ≤ v.proxy.version → found ≡ routing version (metadata rows) → noted ≡ record { routing = found; records = v.records; columns = v.columns } → ShowsRouting v version rows noted
shows_routing v version rows found noted reached is told =
    record {
      reached = reached;
      routing_is = ap (λ (n : NotedRoutingView). n.routing) told ∙ is;
      records = ap (λ (n : NotedRoutingView). n.records) told;
      columns = ap (λ (n : NotedRoutingView). n.columns) told;
    }
