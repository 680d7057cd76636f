-- Rows and versions of a locked proxy, and its journal by the history of the records that it knows.
use Rattle.std.proofs.Common.{◌≡◌, sym, ap, ◌∙◌, subst, ℕ, suc, ◌+◌, ◌*◌, ◌≤◌, Bool, true, nat_eq, if◌then◌else◌, List, [], ◌∷◌, ◌++◌, length, take, drop, slice_get, Some, take-append-drop, arith}
use Rattle.std.proofs.Math.Nat.{mul-lt-mul_of_pos_right}
use Rattle.std.proofs.Math.Seq.{take-append_seam}
use Rattle.std.proofs.lemmas.Bool.{eq-eqb}
use Rattle.std.proofs.lemmas.List.{length-take-le}
use Rattle.facts.specs.Stretches.{Agree, Stretch, StretchesAgree}
use Rattle.model.specs.Configs.{Config}
use Rattle.model.specs.declared.journal.JournalRow.{JournalRow}
use Rattle.model.specs.Records.{Record, IsHistory, last_version, records_of_proxy}
use Rattle.model.specs.Journal.{history_verdicts, journal}
use Rattle.model.specs.World.{up_to_version}
use Rattle.model.specs.Agreed.{Columns, IsKnownJournal, AreVerdicts}
use Rattle.model.proofs.History.Chain.{up_to_front_are, version_before}
use Rattle.model.proofs.History.Growth.{last_version-push, records_of_proxy-append}
use Rattle.model.proofs.History.Rows.{journal_counted}
use Rattle.model.proofs.Agreement.Agreed.{agreed_journal}
use Rattle.model.proofs.Agreement.Sources.{history_take, journal_known, journal_later, journal_take}
use Rattle.locked_cluster.specs.Proxies.{LockedProxyView, IsLockedProxy}
use Rattle.locked_resolvers.proofs.Lists.{take_all, take_next}

-- no more steps are no more rows
pub fewer_rows : (a b step : ℕ) → 1 ≤ step → a * step ≤ b * step → a ≤ b
fewer_rows a b step stepping less = grind (arith, mul-lt-mul_of_pos_right {m = b} {n = a} {k = step})

-- the journal of the first rows of a history is that of these rows alone
pub first_rows : (config : Config) (h : List Record) (n : ℕ) → IsHistory config h → n ≤ length h → journal config (history_verdicts config h) (take n h) ≡ journal config (history_verdicts config (take n h)) (take n h)
first_rows config h n history within =
    sym (journal_take config (history_verdicts config h) h n) ∙ ap (take n) longer ∙ ap (λ (k : ℕ). take k (front ++ back)) (sym size) ∙ take-append_seam front back
  where
    front : List JournalRow
    front = journal config (history_verdicts config (take n h)) (take n h)

    back : List JournalRow
    back = journal config (history_verdicts config h) (drop n h)

    longer : journal config (history_verdicts config h) h ≡ front ++ back
    longer = subst (λ (rs : List Record). journal config (history_verdicts config rs) rs ≡ front ++ journal config (history_verdicts config rs) (drop n h)) (take-append-drop n h) (journal_later config (take n h) (drop n h) (history_take config h n history))

    size : length front ≡ n
    size = journal_counted config (history_verdicts config (take n h)) (take n h) ∙ length-take-le n h within

-- if the cells hold the verdicts, the journal of the history is the one that the cells give
pub known_by_history : (config : Config) (records : List Record) (columns : Columns) (n : ℕ) (rows : List JournalRow) → IsHistory config records → AreVerdicts config (take n records) columns → rows ≡ journal config (history_verdicts config (take n records)) (take n records) → IsKnownJournal config records columns n rows
known_by_history config records columns n rows history cells is = is ∙ sym (journal_known config records columns n history cells)

-- the records that a locked proxy knows up to its version
abbrev pub known_records : LockedProxyView → List Record
known_records v = take (length v.proxy.journal) v.records

pub known_history : (config : Config) (v : LockedProxyView) → IsLockedProxy config v → IsHistory config (known_records v)
known_history config v keeps = history_take config v.records (length v.proxy.journal) keeps.agreed.history

-- they are as many as the rows of the journal
pub known_count : (config : Config) (v : LockedProxyView) → IsLockedProxy config v → length (known_records v) ≡ length v.proxy.journal
known_count config v keeps = length-take-le (length v.proxy.journal) v.records keeps.agreed.rows

-- its journal is that of the history of these records
pub journal_of : (config : Config) (v : LockedProxyView) → IsLockedProxy config v → v.proxy.journal ≡ journal config (history_verdicts config (known_records v)) (known_records v)
journal_of config v keeps = agreed_journal config v.records v.columns (length v.proxy.journal) v.proxy.journal keeps.agreed keeps.journal_is keeps.verdicts

-- all of them are of versions up to the proxy's
pub all_up_to : (config : Config) (v : LockedProxyView) → IsLockedProxy config v → up_to_version v.proxy.version (known_records v) ≡ known_records v
all_up_to config v keeps =
    ap (λ (version : ℕ). up_to_version version (known_records v)) (keeps.version ∙ sym at) ∙ up_to_front_are config (known_records v) (length v.proxy.journal) keeps.config_is.step.0 (known_history config v keeps) within ∙ take_all (known_records v) (length v.proxy.journal) (omega (arith, known_count config v keeps))
  where
    within : length v.proxy.journal ≤ length (known_records v)
    within = let count = known_count config v keeps in omega (arith, count)

    at : last_version (take (length v.proxy.journal) (known_records v)) ≡ length v.proxy.journal * config.step
    at = version_before config (known_records v) (length v.proxy.journal) (known_history config v keeps) within

-- of the rows up to a record of a proxy, this is the proxy's last one
pub own_last : (records : List Record) (p row : ℕ) (rec : Record) → slice_get records row ≡ Some rec → rec.proxy ≡ p → last_version (records_of_proxy p (take (suc row) records)) ≡ rec.version
own_last records p row rec at own =
    ap (λ (k : ℕ). last_version (records_of_proxy p (take k records))) next
    ∙ ap (λ (rs : List Record). last_version (records_of_proxy p rs)) (take_next records row rec at)
    ∙ ap last_version (records_of_proxy-append p (take row records) (rec ∷ []) ∙ ap (λ (t : Bool). records_of_proxy p (take row records) ++ (if t then rec ∷ [] else [])) is)
    ∙ last_version-push (records_of_proxy p (take row records)) rec
  where
    next : suc row ≡ row + 1
    next = omega arith

    is : nat_eq rec.proxy p ≡ true
    is = eq-eqb rec.proxy p own

-- two stretches from row 0 agree as lists
pub agree_from_zero : {X : Type 0} (s t : Stretch X) (known : List X) → s.first ≡ 0 → t ≡ record { first = 0; known = known } → StretchesAgree s t → Agree 0 s.known 0 known
agree_from_zero {X} s t known first is agree =
    subst (λ (k : ℕ). Agree k s.known 0 known) first (subst (λ (u : Stretch X). Agree s.first s.known u.first u.known) is agree)

pub from_zero : {X : Type 0} (s : Stretch X) → s.first ≡ 0 → s ≡ record { first = 0; known = s.known }
from_zero s first = λ i. record { first = first i; known = s.known }
