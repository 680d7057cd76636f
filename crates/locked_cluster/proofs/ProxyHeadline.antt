-- The promise, from what the types of locked proxies and of their answers keep.
use Rattle.std.proofs.Common.{◌≡◌, refl, sym, ap, ◌∙◌, subst, ℕ, zero, suc, ◌+◌, ◌*◌, ◌<◌, ◌≤◌, ◌↔◌, ◌⊎◌, inl, inr, List, [], ◌∷◌, ◌++◌, length, take, Bool, true, false, nat_le, slice_get, Option, Some, Contains, arith}
use Rattle.std.proofs.lemmas.Bool.{cases_order}
use Rattle.std.proofs.lemmas.Bool.Decides.{leb_tells}
use Rattle.std.proofs.lemmas.List.Sums.{count_by-le-length, length-filter}
use Rattle.facts.specs.Stretches.{Agree}
use Rattle.system_keys.specs.declared.change.Change.{Change}
use Rattle.model.specs.Configs.{Config, IsConfig}
use Rattle.model.specs.declared.journal.JournalRow.{JournalRow}
use Rattle.model.specs.declared.outcome.Finished.{Finished}
use Rattle.model.specs.declared.outcome.Outcome.{Outcome}
use Rattle.model.specs.declared.outcome.Outcome.TheVariants.{Committed}
use Rattle.model.specs.declared.outcome.Tagged.{Tagged}
use Rattle.model.specs.Committed.{IsToldCommitted}
use Rattle.model.specs.Journal.{VerdictSource, history_verdicts, journal, journal_row}
use Rattle.model.specs.Metadata.{Entries, metadata, tags}
use Rattle.model.specs.Outcomes.{outcomes, outcomes_after}
use Rattle.model.specs.PrivateCopies.{private_copy}
use Rattle.model.specs.Records.{Record, IsHistory, last_version}
use Rattle.model.specs.Serial.{Place, IsCommitted}
use Rattle.model.specs.Transactions.{StampedTransaction}
use Rattle.model.specs.World.{IsTaggedBy, finished_after, tagged_all, tagged_from, tagged_one, rows_up_to, up_to_version}
use Rattle.model.proofs.Agreement.Holders.{finished_outcomes, finished_tags}
use Rattle.model.proofs.Agreement.Sources.{journal_push}
use Rattle.model.proofs.History.Chain.{up_to_front_are, version_before}
use Rattle.model.proofs.Journals.ReplyRows.{first_up_to}
use Rattle.model.proofs.Members.{Has, Has-append_left, Has-append_right, Contains-from_Has}
use Rattle.model.proofs.Serializability.ByKeys.{committed_is_told, told_numbers_are_its_own}
use Rattle.model.proofs.Serializability.Histories.{history_is_serial}
use Rattle.locked_cluster.specs.Answers.{NotedFinishedView, IsNotedFinished}
use Rattle.locked_cluster.specs.Audits.{IsAudited, reached_records}
use Rattle.locked_cluster.specs.Headline.{AgreeAt, Headline, HasMutation, IsTrueAnswer, KeepsMetadata, MeetsAnswer, TellsCommitted, history_metadata, metadata_at}
use Rattle.locked_cluster.specs.Proxies.{LockedProxyView, IsLockedProxy}
use Rattle.locked_cluster.proofs.ProxyAudits.{answer_begins_with, answer_version, begins_with_answer, is_audited, is_confirmed, reached_are_known, row_is_known}
use Rattle.locked_resolvers.proofs.Lists.{take_all, take_next}
use Rattle.locked_cluster.proofs.ProxyMeets.{agree_back, known_begin, known_within, same_journal}
use Rattle.locked_cluster.proofs.ProxyRoutings.{rows_then}
use Rattle.locked_cluster.proofs.ProxyRows.{all_up_to, first_rows, known_count, known_history, known_records}

-- ---- the mutations of committed transactions

-- the list has the mutation of that number and place
record Tags (mutations : List Tagged) (number place : ℕ) (change : Change) : Type 0 where
  mutation : Tagged
  there : Has mutations mutation
  number_is : mutation.number ≡ number
  place_is : mutation.place ≡ place
  change_is : mutation.change ≡ change

some_same : {X : Type 0} (a b : X) → Some a ≡ Some b → a ≡ b
some_same a b same = cc

-- one of two is the other if both stand in one place
one_of : {X : Type 0} (a b : X) (place : Option X) → place ≡ Some a → place ≡ Some b → a ≡ b
one_of a b place is_a is_b = cc

-- each change of a transaction is tagged
change_tagged : (rows : Entries) (number n place at : ℕ) (changes : List Change) (change : Change) → at ≡ n + place → slice_get changes place ≡ Some change → Tags (tagged_from rows number n changes) number at change
change_tagged rows number n place at [] change is there = absurd (cc)
change_tagged rows number n zero at (first ∷ changes) change is there =
    let own : Tagged = record { number = number; place = n; change = first; tags = tags rows first; private = private_copy rows first } in
    record { mutation = own; there = inl refl; number_is = refl; place_is = omega (arith, is); change_is = some_same first change there }
change_tagged rows number n (suc place) at (first ∷ changes) change is there =
    let later = change_tagged rows number (suc n) place at changes change (omega (arith, is)) there in
    record { mutation = later.mutation; there = inr later.there; number_is = later.number_is; place_is = later.place_is; change_is = later.change_is }

-- each change of a transaction of the batch that is committed is tagged
batch_tagged : (rows : Entries) (ts : List StampedTransaction) (results : List Outcome) (n : ℕ) (t : StampedTransaction) (version number place : ℕ) (change : Change) → slice_get ts n ≡ Some t → slice_get results n ≡ Some (Committed version number) → slice_get t.changes place ≡ Some change → Tags (tagged_all rows ts results) number place change
batch_tagged rows [] results n t version number place change at told there = absurd (cc)
batch_tagged rows (first ∷ ts) [] n t version number place change at told there = absurd (cc)
batch_tagged rows (first ∷ ts) (result ∷ results) zero t version number place change at told there =
    let own : first ≡ t = some_same first t at in
    let committed : result ≡ Committed version number = some_same result (Committed version number) told in
    let one : tagged_one rows first result ≡ tagged_from rows number 0 t.changes = λ i. tagged_one rows (own i) (committed i) in
    let found = change_tagged rows number 0 place place t.changes change (omega arith) there in
    record {
      mutation = found.mutation;
      there = Has-append_left (tagged_one rows first result) (tagged_all rows ts results) found.mutation (subst (λ (xs : List Tagged). Has xs found.mutation) (sym one) found.there);
      number_is = found.number_is;
      place_is = found.place_is;
      change_is = found.change_is;
    }
batch_tagged rows (first ∷ ts) (result ∷ results) (suc n) t version number place change at told there =
    let found = batch_tagged rows ts results n t version number place change at told there in
    record {
      mutation = found.mutation;
      there = Has-append_right (tagged_one rows first result) (tagged_all rows ts results) found.mutation found.there;
      number_is = found.number_is;
      place_is = found.place_is;
      change_is = found.change_is;
    }

-- the mutations of a finished batch
finished_mutations : (config : Config) (verdict_by : VerdictSource) (journal_before : List JournalRow) (rec : Record) → (finished_after config verdict_by journal_before rec).tagged ≡ tagged_all (metadata (journal_before ++ journal_row config verdict_by rec ∷ [])) rec.batch (outcomes_after config verdict_by journal_before rec)
unfolding finished_after
finished_mutations config verdict_by journal_before rec = refl

-- ---- an answer

module _ (config : Config) (answer : NotedFinishedView) (noted : IsNotedFinished config answer) where
  abbrev row : ℕ
  row = answer.finished.row

  abbrev verdict_by : VerdictSource
  verdict_by = history_verdicts config answer.records

  abbrev rows_before : List JournalRow
  rows_before = journal config verdict_by (take row answer.records)

  -- the tags and the private copies of an answer are those of the metadata after its record
  tags_of : (tagged : Tagged) → Contains answer.finished.tagged tagged → IsTaggedBy (metadata (journal config verdict_by answer.records)) tagged
  tags_of tagged there =
      subst (λ (rows : List JournalRow). IsTaggedBy (metadata rows) tagged) (sym (journal_push config verdict_by (take row answer.records) noted.rec) ∙ ap (journal config verdict_by) whole)
      (finished_tags config verdict_by rows_before noted.rec tagged (subst (λ (f : Finished). Contains f.tagged tagged) noted.finished_is there))
    where
      whole : take row answer.records ++ noted.rec ∷ [] ≡ answer.records
      whole = let last = noted.last in sym (take_next answer.records row noted.rec noted.there) ∙ take_all answer.records (row + 1) (omega (arith, last))

  -- the record at the row of an answer
  record_of : (a : Place answer.records) → a.i ≡ row → noted.rec ≡ a.rec
  record_of a at = one_of noted.rec a.rec (slice_get answer.records row) noted.there (ap (slice_get answer.records) (sym at) ∙ a.record_is)

  -- the outcomes of an answer are those of its record
  outcomes_of : (a : Place answer.records) → a.i ≡ row → answer.finished.outcomes ≡ outcomes config verdict_by (take a.i answer.records) a.rec
  outcomes_of a at =
      let back : row ≡ a.i = sym at in
      let one : noted.rec ≡ a.rec = record_of a at in
      ap (λ (f : Finished). f.outcomes) noted.finished_is
      ∙ finished_outcomes config verdict_by rows_before noted.rec
      ∙ (λ i. outcomes config verdict_by (take (back i) answer.records) (one i))

  told_of : (a : Place answer.records) → a.i ≡ row → TellsCommitted answer.finished a.n ↔ IsCommitted config answer.records a
  told_of a at = (λ tells. (committed_is_told config answer.records a).1 (own tells), λ committed. tells_of ((committed_is_told config answer.records a).0 committed))
    where
      own : TellsCommitted answer.finished a.n → IsToldCommitted config answer.records a a.rec.version a.n
      own tells =
          let told : IsToldCommitted config answer.records a tells.version tells.number = ap (λ (results : List Outcome). slice_get results a.n) (sym (outcomes_of a at)) ∙ tells.told in
          let numbers = told_numbers_are_its_own config answer.records a tells.version tells.number told in
          told ∙ (λ i. Some (Committed (numbers.0 i) (numbers.1 i)))

      tells_of : IsToldCommitted config answer.records a a.rec.version a.n → TellsCommitted answer.finished a.n
      tells_of told = record { version = a.rec.version; number = a.n; told = ap (λ (results : List Outcome). slice_get results a.n) (outcomes_of a at) ∙ told }

  mutation_of : (a : Place answer.records) → a.i ≡ row → IsCommitted config answer.records a → (place : ℕ) (change : Change) → slice_get a.transaction.changes place ≡ Some change → HasMutation answer.finished.tagged a.n place change
  mutation_of a at committed place change there =
      record {
        mutation = found.mutation;
        there = subst (λ (xs : List Tagged). Contains xs found.mutation) (sym tagged) (Contains-from_Has (tagged_all entries a.rec.batch answer.finished.outcomes) found.mutation found.there);
        number_is = found.number_is;
        place_is = found.place_is;
        change_is = found.change_is;
      }
    where
      one : noted.rec ≡ a.rec
      one = record_of a at

      entries : Entries
      entries = metadata (rows_before ++ journal_row config verdict_by noted.rec ∷ [])

      back : outcomes_after config verdict_by rows_before noted.rec ≡ answer.finished.outcomes
      back = sym (ap (λ (f : Finished). f.outcomes) noted.finished_is ∙ finished_outcomes config verdict_by rows_before noted.rec)

      tagged : answer.finished.tagged ≡ tagged_all entries a.rec.batch answer.finished.outcomes
      tagged =
          ap (λ (f : Finished). f.tagged) noted.finished_is
          ∙ finished_mutations config verdict_by rows_before noted.rec
          ∙ (λ i. tagged_all entries (one i).batch (back i))

      told : slice_get answer.finished.outcomes a.n ≡ Some (Committed a.rec.version a.n)
      told = ap (λ (rs : List Outcome). slice_get rs a.n) (outcomes_of a at) ∙ (committed_is_told config answer.records a).0 committed

      found : Tags (tagged_all entries a.rec.batch answer.finished.outcomes) a.n place change
      found = batch_tagged entries a.rec.batch answer.finished.outcomes a.n a.transaction a.rec.version a.n place change a.transaction_is told there

  true_answer : IsConfig config → IsTrueAnswer config answer
  true_answer limits =
      record {
        rec = noted.rec;
        history = noted.history;
        length_is = noted.last;
        there = noted.there;
        last = ap last_version (sym whole) ∙ version_before config answer.records (row + 1) noted.history within ∙ sym (answer_version config answer noted);
        finished_is = noted.finished_is;
        told = told_of;
        all_are_there = mutation_of;
        tags_are = tags_of;
        serial = history_is_serial config answer.records limits noted.history;
      }
    where
      within : row + 1 ≤ length answer.records
      within = let last = noted.last in omega (arith, last)

      whole : take (row + 1) answer.records ≡ answer.records
      whole = let last = noted.last in take_all answer.records (row + 1) (omega (arith, last))

-- ---- a proxy and an answer

-- the records of a history up to a version are the first of them
up_to_are : (config : Config) (h : List Record) (n version : ℕ) → 1 ≤ config.step → IsHistory config h → n ≤ length h → version ≡ n * config.step → up_to_version version h ≡ take n h
up_to_are config h n version stepping history within is =
    ap (λ (k : ℕ). up_to_version k h) (is ∙ sym (version_before config h n history within)) ∙ up_to_front_are config h n stepping history within

meets_answer : (config : Config) (v : LockedProxyView) (entries : Entries) (answer : NotedFinishedView) → IsLockedProxy config v → IsNotedFinished config answer → Agree 0 v.records 0 answer.records → KeepsMetadata config v entries → MeetsAnswer config v entries answer
meets_answer config v entries answer keeps noted agree is =
    record {
      begins = begins;
      continues = λ less.
          let front = answer_begins_with config v answer keeps noted agree less in
          up_to_are config answer.records (length v.proxy.journal) v.proxy.version keeps.config_is.step.0 noted.history front.0 keeps.version ∙ front.1 ∙ sym (reached_are_known config v keeps);
      confirmed = λ reached. is_confirmed config v answer keeps noted agree reached;
      tags_are = λ same tagged there.
          subst (λ (rows : Entries). IsTaggedBy rows tagged) (ap (λ (h : List Record). metadata (journal config (history_verdicts config h) h)) (one_history same) ∙ sym is.metadata_is)
          (tags_of config answer noted tagged there);
    }
  where
    begins : answer.finished.version ≤ v.proxy.version → up_to_version answer.finished.version (reached_records v) ≡ answer.records
    begins reached =
        let within = row_is_known config v answer keeps noted reached in
        let count = known_count config v keeps in
        ap (up_to_version answer.finished.version) (reached_are_known config v keeps)
        ∙ up_to_are config (known_records v) (answer.finished.row + 1) answer.finished.version keeps.config_is.step.0 (known_history config v keeps) (omega (arith, within, count)) (answer_version config answer noted)
        ∙ begins_with_answer config v answer keeps noted agree reached

    one_history : answer.finished.version ≡ v.proxy.version → answer.records ≡ reached_records v
    one_history same =
        sym (begins (omega (arith, same)))
        ∙ ap (λ (version : ℕ). up_to_version version (reached_records v)) same
        ∙ ap (up_to_version v.proxy.version) (reached_are_known config v keeps)
        ∙ all_up_to config v keeps
        ∙ sym (reached_are_known config v keeps)

-- ---- two proxies

-- of the records up to a version, those up to a lower one are those of all records
up_to_lower : (low high : ℕ) (h : List Record) → low ≤ high → up_to_version low (up_to_version high h) ≡ up_to_version low h
up_to_lower low high [] less = refl
up_to_lower low high (rec ∷ h) less = by (leb_tells rec.version high) (leb_tells rec.version low) (up_to_lower low high h less)
  where
    by : ((nat_le rec.version high ≡ true) × (rec.version ≤ high)) ⊎ ((nat_le rec.version high ≡ false) × (high < rec.version))
        → ((nat_le rec.version low ≡ true) × (rec.version ≤ low)) ⊎ ((nat_le rec.version low ≡ false) × (low < rec.version))
        → up_to_version low (up_to_version high h) ≡ up_to_version low h
        → up_to_version low (up_to_version high (rec ∷ h)) ≡ up_to_version low (rec ∷ h)
    by (inl (in_high, x)) (inl (in_low, y)) rest = rw (in_high, in_low) (ap (λ (rs : List Record). rec ∷ rs) rest)
    by (inl (in_high, x)) (inr (in_low, y)) rest = rw (in_high, in_low) rest
    by (inr (in_high, x)) (inl (in_low, y)) rest = absurd (omega (arith, x, y, less))
    by (inr (in_high, x)) (inr (in_low, y)) rest = rw (in_high, in_low) rest

-- the records of the proxy that has come no further are those of the other up to its version
reached_begin : (config : Config) (a b : LockedProxyView) → IsLockedProxy config a → IsLockedProxy config b → Agree 0 a.records 0 b.records → a.proxy.version ≤ b.proxy.version → reached_records a ≡ up_to_version a.proxy.version (reached_records b)
reached_begin config a b keeps kept agree less =
    reached_are_known config a keeps
    ∙ known_begin config a b keeps kept agree less
    ∙ sym (up_to_are config (known_records b) (length a.proxy.journal) a.proxy.version keeps.config_is.step.0 (known_history config b kept) (known_within config a b keeps kept less) keeps.version)
    ∙ ap (up_to_version a.proxy.version) (sym (reached_are_known config b kept))

-- and so up to each version that it has reached both have the same
reached_same : (config : Config) (a b : LockedProxyView) (version : ℕ) → IsLockedProxy config a → IsLockedProxy config b → Agree 0 a.records 0 b.records → version ≤ a.proxy.version → a.proxy.version ≤ b.proxy.version → up_to_version version (reached_records a) ≡ up_to_version version (reached_records b)
reached_same config a b version keeps kept agree reached less =
    ap (up_to_version version) (reached_begin config a b keeps kept agree less) ∙ up_to_lower version a.proxy.version (reached_records b) reached

same_up_to : (config : Config) (one other : LockedProxyView) (version : ℕ) → IsLockedProxy config one → IsLockedProxy config other → Agree 0 one.records 0 other.records → version ≤ one.proxy.version → version ≤ other.proxy.version → up_to_version version (reached_records one) ≡ up_to_version version (reached_records other)
same_up_to config one other version keeps kept agree mine theirs = by (cases_order one.proxy.version other.proxy.version)
  where
    by : (one.proxy.version ≡ other.proxy.version) ⊎ ((one.proxy.version < other.proxy.version) ⊎ (other.proxy.version < one.proxy.version)) → up_to_version version (reached_records one) ≡ up_to_version version (reached_records other)
    by (inl same) = reached_same config one other version keeps kept agree mine (omega (arith, same))
    by (inr (inl less)) = reached_same config one other version keeps kept agree mine (omega (arith, less))
    by (inr (inr more)) = sym (reached_same config other one version kept keeps (agree_back one.records other.records agree) theirs (omega (arith, more)))

-- ---- the promise

-- by the verdicts of a history, the journal of its records up to a version is that of these alone
journal_up_to : (config : Config) (h : List Record) (version : ℕ) → IsHistory config h → journal config (history_verdicts config h) (up_to_version version h) ≡ journal config (history_verdicts config (up_to_version version h)) (up_to_version version h)
journal_up_to config h version history =
    subst (λ (then : List Record). journal config (history_verdicts config h) then ≡ journal config (history_verdicts config then) then) (first_up_to config h version history)
    (first_rows config h (rows_up_to version h) history within)
  where
    test : Record → Bool
    test rec = nat_le rec.version version

    within : rows_up_to version h ≤ length h
    within = let counted = length-filter test h in let fewer = count_by-le-length test h in omega (arith, counted, fewer)

metadata_then : (config : Config) (v : LockedProxyView) (version : ℕ) → IsLockedProxy config v → metadata_at v version ≡ history_metadata config (up_to_version version (reached_records v))
metadata_then config v version keeps =
    ap metadata (rows_then config v version keeps ∙ journal_up_to config (known_records v) version (known_history config v keeps))
    ∙ ap (λ (h : List Record). history_metadata config (up_to_version version h)) (sym (reached_are_known config v keeps))

agree_then : (config : Config) (one other : LockedProxyView) (version : ℕ) → IsLockedProxy config one → IsLockedProxy config other → Agree 0 one.records 0 other.records → version ≤ one.proxy.version → version ≤ other.proxy.version → AgreeAt version one other
agree_then config one other version keeps kept agree reached reached_too =
    record {
      records = same;
      metadata = metadata_then config one version keeps ∙ ap (history_metadata config) same ∙ sym (metadata_then config other version kept);
    }
  where
    same : up_to_version version (reached_records one) ≡ up_to_version version (reached_records other)
    same = same_up_to config one other version keeps kept agree reached reached_too

keeps_metadata : (config : Config) (v : LockedProxyView) (entries : Entries) → IsLockedProxy config v → entries ≡ metadata v.proxy.journal → KeepsMetadata config v entries
keeps_metadata config v entries keeps is =
    record {
      history = audited.history;
      last = audited.last;
      metadata_is = is ∙ ap metadata audited.journal_is;
      metadata_at_is = λ version reached. metadata_then config v version keeps;
      serial = audited.serial;
    }
  where
    audited : IsAudited config v
    audited = is_audited config v keeps

pub headline_of : (config : Config) (one other : LockedProxyView) (mine theirs : Entries) (answer : NotedFinishedView) → IsLockedProxy config one → IsLockedProxy config other → IsNotedFinished config answer → Agree 0 one.records 0 other.records → Agree 0 one.records 0 answer.records → Agree 0 other.records 0 answer.records → mine ≡ metadata one.proxy.journal → theirs ≡ metadata other.proxy.journal → Headline config one other mine theirs answer
headline_of config one other mine theirs answer keeps kept noted agree agree_one agree_other mine_is theirs_is =
    record {
      mine_is = keeps_metadata config one mine keeps mine_is;
      theirs_is = keeps_metadata config other theirs kept theirs_is;
      agree = λ same. mine_is ∙ ap metadata (same_journal config one other keeps kept agree same) ∙ sym theirs_is;
      agree_at = λ version reached reached_too. agree_then config one other version keeps kept agree reached reached_too;
      answer_is = true_answer config answer noted keeps.config_is;
      mine_meets = meets_answer config one mine answer keeps noted agree_one (keeps_metadata config one mine keeps mine_is);
      theirs_meet = meets_answer config other theirs answer kept noted agree_other (keeps_metadata config other theirs kept theirs_is);
    }
