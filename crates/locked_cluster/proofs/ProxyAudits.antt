-- What is known of a locked proxy when its resolvers, or its answers, are compared with it.
use Rattle.std.proofs.Common.{◌≡◌, sym, ap, ◌∙◌, subst, ℕ, ◌+◌, ◌*◌, ◌<◌, ◌≤◌, ◌⊎◌, inl, inr, List, [], ◌∷◌, ◌++◌, length, take, drop, slice_get, Some, take-append-drop, arith}
use Rattle.facts.specs.Stretches.{Agree}
use Rattle.model.specs.Configs.{Config}
use Rattle.model.specs.declared.outcome.Finished.{Finished}
use Rattle.model.specs.Records.{Record, IsHistory, last_version}
use Rattle.model.specs.Journal.{history_verdicts, journal}
use Rattle.model.specs.World.{finished_batch, up_to_version}
use Rattle.model.specs.Agreed.{AreVerdicts, IsVerdictColumn}
use Rattle.model.proofs.Agreement.Holders.{column_first}
use Rattle.model.proofs.Agreement.Sources.{finished_later}
use Rattle.model.proofs.History.Chain.{up_to_front_are, version_before, versions_at}
use Rattle.model.proofs.History.Growth.{push_cases}
use Rattle.model.proofs.History.Rows.{finished_version_is}
use Rattle.model.proofs.Serializability.Histories.{history_is_serial}
use Rattle.model.proofs.Shares.Askers.{slice_get-append_left}
use Rattle.model.proofs.Verdicts.Places.{take-take_le}
use Rattle.locked_cluster.specs.Answers.{NotedFinishedView, IsNotedFinished}
use Rattle.locked_cluster.specs.Audits.{HasReached, HaveReached, IsAudited, IsConfirmed, reached_records}
use Rattle.locked_cluster.specs.Proxies.{LockedProxyView, IsLockedProxy}
use Rattle.locked_resolvers.specs.Resolvers.{LockedResolverView, IsLockedResolver}
use Rattle.locked_resolvers.proofs.Lists.{first_same, take_all, take_next}
use Rattle.locked_cluster.proofs.ProxyRows.{fewer_rows, journal_of, known_count, known_history, known_records}
use Rattle.locked_resolvers.proofs.ServedRequests.{rows_of_resolver}

-- the records up to the proxy's version are as many as the rows of its journal
pub reached_are_known : (config : Config) (v : LockedProxyView) → IsLockedProxy config v → reached_records v ≡ known_records v
reached_are_known config v keeps =
    ap (λ (version : ℕ). up_to_version version v.records) (keeps.version ∙ sym (version_before config v.records (length v.proxy.journal) keeps.agreed.history keeps.agreed.rows))
    ∙ up_to_front_are config v.records (length v.proxy.journal) keeps.config_is.step.0 keeps.agreed.history keeps.agreed.rows

-- ---- an audit

pub is_audited : (config : Config) (v : LockedProxyView) → IsLockedProxy config v → IsAudited config v
is_audited config v keeps =
    record {
      history = history;
      last = ap last_version is ∙ version_before config v.records (length v.proxy.journal) keeps.agreed.history keeps.agreed.rows ∙ sym keeps.version;
      journal_is = journal_of config v keeps ∙ ap (λ (h : List Record). journal config (history_verdicts config h) h) (sym is);
      cells = λ r there. let cells = keeps.agreed.cells r there in omega (arith, cells, count);
      verdicts = subst (λ (h : List Record). AreVerdicts config h v.columns) (sym is) keeps.verdicts;
      serial = history_is_serial config (reached_records v) keeps.config_is history;
    }
  where
    is : reached_records v ≡ known_records v
    is = reached_are_known config v keeps

    history : IsHistory config (reached_records v)
    history = subst (IsHistory config) (sym is) (known_history config v keeps)

    count : length (reached_records v) ≡ length v.proxy.journal
    count = ap (λ (h : List Record). length h) is ∙ known_count config v keeps

-- a resolver at or above the proxy's version
pub has_reached : (config : Config) (v : LockedProxyView) (r : LockedResolverView) → IsLockedProxy config v → IsLockedResolver config r → Agree 0 v.records 0 r.records → v.proxy.version ≤ r.memory.version → HasReached config v r
has_reached config v r keeps kept agree reached =
    record {
      reached = reached;
      records = ap (λ (k : ℕ). take k r.records) count ∙ first;
      cells = let cells = kept.cells in omega (arith, cells, count, within);
      verdicts = subst (λ (h : List Record). IsVerdictColumn config h r.memory.number r.column) first (column_first config r.records r.memory.number n r.column kept.verdicts);
    }
  where
    n : ℕ
    n = length v.proxy.journal

    is : reached_records v ≡ known_records v
    is = reached_are_known config v keeps

    count : length (reached_records v) ≡ n
    count = ap (λ (h : List Record). length h) is ∙ known_count config v keeps

    within : n ≤ length r.records
    within = let mine = keeps.version in let rows = rows_of_resolver config r kept in fewer_rows n (length r.records) config.step keeps.config_is.step.0 (omega (arith, mine, rows, reached))

    first : take n r.records ≡ reached_records v
    first = sym (first_same n v.records r.records agree keeps.agreed.rows within) ∙ sym is

-- one resolver more
pub have_reached_next : (config : Config) (v : LockedProxyView) (resolvers : List LockedResolverView) (k : ℕ) (r : LockedResolverView) → slice_get resolvers k ≡ Some r → HaveReached config v (take k resolvers) → HasReached config v r → HaveReached config v (take (k + 1) resolvers)
have_reached_next config v resolvers k r at so_far reached = subst (HaveReached config v) (sym (take_next resolvers k r at)) longer
  where
    longer : HaveReached config v (take k resolvers ++ r ∷ [])
    longer place s there = by (push_cases (take k resolvers) r place s there)
      where
        by : ((place ≡ length (take k resolvers)) × (r ≡ s)) ⊎ ((place < length (take k resolvers)) × (slice_get (take k resolvers) place ≡ Some s)) → HasReached config v s
        by (inl last) = subst (HasReached config v) last.1 reached
        by (inr sooner) = so_far place s sooner.1

-- ---- answers

-- the version of an answer is that of its last record
pub answer_version : (config : Config) (answer : NotedFinishedView) → IsNotedFinished config answer → answer.finished.version ≡ (answer.finished.row + 1) * config.step
answer_version config answer noted =
    ap (λ (f : Finished). f.version) noted.finished_is
    ∙ finished_version_is config (history_verdicts config answer.records) (journal config (history_verdicts config answer.records) (take answer.finished.row answer.records)) noted.rec
    ∙ (versions_at config answer.records answer.finished.row noted.rec noted.history noted.there).1
    ∙ ap (λ (k : ℕ). k * config.step) (omega arith)

-- a proxy that has reached the version of an answer knows its row
pub row_is_known : (config : Config) (v : LockedProxyView) (answer : NotedFinishedView) → IsLockedProxy config v → IsNotedFinished config answer → answer.finished.version ≤ v.proxy.version → answer.finished.row + 1 ≤ length v.proxy.journal
row_is_known config v answer keeps noted reached =
    let mine = keeps.version in
    let version = answer_version config answer noted in
    fewer_rows (answer.finished.row + 1) (length v.proxy.journal) config.step keeps.config_is.step.0 (omega (arith, mine, version, reached))

-- its records begin with those of the answer
pub begins_with_answer : (config : Config) (v : LockedProxyView) (answer : NotedFinishedView) → IsLockedProxy config v → IsNotedFinished config answer → Agree 0 v.records 0 answer.records → answer.finished.version ≤ v.proxy.version → take (answer.finished.row + 1) (known_records v) ≡ answer.records
begins_with_answer config v answer keeps noted agree reached =
    let last = noted.last in
    let within = row_is_known config v answer keeps noted reached in
    let rows = keeps.agreed.rows in
    take-take_le v.records (answer.finished.row + 1) (length v.proxy.journal) within
    ∙ first_same (answer.finished.row + 1) v.records answer.records agree (omega (arith, rows, within)) (omega (arith, last))
    ∙ take_all answer.records (answer.finished.row + 1) (omega (arith, last))

-- the records of an answer begin with those of a proxy that has come no further
pub answer_begins_with : (config : Config) (v : LockedProxyView) (answer : NotedFinishedView) → IsLockedProxy config v → IsNotedFinished config answer → Agree 0 v.records 0 answer.records → v.proxy.version ≤ answer.finished.version → (length v.proxy.journal ≤ length answer.records) × (take (length v.proxy.journal) answer.records ≡ known_records v)
answer_begins_with config v answer keeps noted agree less = (within, sym (first_same (length v.proxy.journal) v.records answer.records agree keeps.agreed.rows within))
  where
    fewer : length v.proxy.journal ≤ answer.finished.row + 1
    fewer =
        let mine = keeps.version in
        let version = answer_version config answer noted in
        fewer_rows (length v.proxy.journal) (answer.finished.row + 1) config.step keeps.config_is.step.0 (omega (arith, mine, version, less))

    within : length v.proxy.journal ≤ length answer.records
    within = let last = noted.last in omega (arith, fewer, last)

-- ---- a confirmation

pub is_confirmed : (config : Config) (v : LockedProxyView) (answer : NotedFinishedView) → IsLockedProxy config v → IsNotedFinished config answer → Agree 0 v.records 0 answer.records → answer.finished.version ≤ v.proxy.version → IsConfirmed config v answer
is_confirmed config v answer keeps noted agree reached =
    record {
      reached = reached;
      rec = noted.rec;
      there = ap (λ (h : List Record). slice_get h row) (sym whole) ∙ slice_get-append_left answer.records later row (omega (arith, last)) ∙ noted.there;
      finished_is =
          noted.finished_is ∙ sym (finished_later config answer.records later row noted.rec noted.history noted.there)
          ∙ ap (λ (h : List Record). finished_batch config (history_verdicts config h) (take row h) noted.rec) whole;
    }
  where
    row : ℕ
    row = answer.finished.row

    last : length answer.records ≡ row + 1
    last = noted.last

    later : List Record
    later = drop (row + 1) (known_records v)

    whole : answer.records ++ later ≡ reached_records v
    whole =
        ap (λ (front : List Record). front ++ later) (sym (begins_with_answer config v answer keeps noted agree reached)) ∙ take-append-drop (row + 1) (known_records v) ∙ sym (reached_are_known config v keeps)
