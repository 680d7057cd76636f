-- The earliest record of a proxy, what the replies to it tell, and the proxy after it is finished.
use Rattle.std.proofs.Common.{◌≡◌, refl, sym, ap, ◌∙◌, subst, ℕ, ◌<◌, ◌≤◌, List, [], ◌∷◌, ◌++◌, map, length, drop, fold, slice_get, slice_index_or, slice_set, Some, None, arith}
use Rattle.std.proofs.lemmas.List.Sums.{fold-append}
use Rattle.model.specs.Configs.{Config}
use Rattle.model.specs.declared.journal.JournalRow.{JournalRow}
use Rattle.model.specs.declared.verdict.Verdict.{Verdict}
use Rattle.model.specs.declared.outcome.Finished.{Finished}
use Rattle.model.specs.Records.{Record}
use Rattle.model.specs.Shares.{asked}
use Rattle.model.specs.Metadata.{Entries, metadata, after_journal_row, is_locked}
use Rattle.model.specs.OwnerMaps.{OwnerMapView}
use Rattle.model.specs.Journal.{AgreeOn, journal_row}
use Rattle.model.specs.Outcomes.{outcomes_after}
use Rattle.model.specs.World.{finished_after}
use Rattle.model.specs.Finishing.{ProxyView, Replies, disagreements, rows_by_replies, replied_verdicts, AgreeOnRows, HasFinished}
use Rattle.model.proofs.Proxies.AgreeingReplies.{agree_on_told}
use Rattle.model.proofs.Shares.Askers.{journal_row_alike}
use Rattle.model.proofs.Agreement.AgreeingSources.{finished_after_alike}
use Rattle.proxy_state.specs.declared.begun_record.BegunRecord.{BegunRecord}
use Rattle.proxy_state.specs.declared.learned.Learned.{Learned}
use Rattle.proxy_state.specs.Begun.{record_of, AreBegun, IsKept}
use Rattle.proxy_state.specs.Learning.{columns_of_replies, by_columns}
use Rattle.proxy_state.specs.Finishing.{IsReplied, IsLearned, finished_by_columns, after_told, after_batch}
use Rattle.proxy_state.proofs.ColumnLaws.{columns_agree}

-- ---- the earliest record

none_disagrees : (versions : List ℕ) → slice_get versions 0 ≡ None → versions ≡ []
none_disagrees [] none = refl
none_disagrees (version ∷ versions) none = absurd (cc)

pub replied_first : (config : Config) (owned : OwnerMapView) (version last : ℕ) (begun : List BegunRecord) (journal : List JournalRow) (entries : Entries) (v : ProxyView) (replies : Replies) (one : BegunRecord)
    → IsKept config owned version last begun journal entries → v.config ≡ config → v.version ≡ version → v.begun ≡ map record_of begun → 1 ≤ config.resolvers
    → slice_get begun 0 ≡ Some one → slice_get (disagreements config version one.rec replies) 0 ≡ None → IsReplied v replies one
replied_first config owned version last [] journal entries v replies one kept same_config same_version same_begun some there none = absurd (cc)
replied_first config owned version last (first ∷ later) journal entries v replies one kept same_config same_version same_begun some there none =
    let same : first ≡ one = cc in
    record {
      rest = map record_of later;
      begun_is = same_begun ∙ ap (λ (b : BegunRecord). b.rec ∷ map record_of later) same;
      asking = rw same_config (subst (λ (b : BegunRecord). b.asked ≡ map (asked config b.rec) b.rec.batch) same kept.chain.1);
      agree = rw (same_config, same_version) (agree_on_told config version one.rec replies some (none_disagrees (disagreements config version one.rec replies) none));
    }

-- ---- what the replies tell

pub learned_from : (v : ProxyView) (config : Config) (replies : Replies) (one : BegunRecord) (learned : Learned)
    → IsReplied v replies one → config ≡ v.config → learned.told.items ≡ rows_by_replies config.resolvers replies → learned.own ≡ journal_row config (by_columns learned.columns.items) one.rec
    → learned.columns.items ≡ columns_of_replies config.resolvers one.asked replies → IsLearned v replies learned
learned_from v config replies one learned replied same told own columns =
    let columns_are : learned.columns.items ≡ columns_of_replies v.config.resolvers (map (asked v.config one.rec) one.rec.batch) replies =
    columns ∙ (λ i. columns_of_replies (same i).resolvers one.asked replies) ∙ ap (λ (lists : List (List ℕ)). columns_of_replies v.config.resolvers lists replies) replied.asking in
    record {
      rec = one.rec;
      rest = replied.rest;
      begun_is = replied.begun_is;
      agree = subst (AgreeOnRows v.config v.version one.rec replies) (sym (told ∙ (λ i. rows_by_replies (same i).resolvers replies))) replied.agree;
      own = own ∙ ap (λ (numbers : Config). journal_row numbers (by_columns learned.columns.items) one.rec) same;
      alike = subst (λ (columns : List (List Verdict)). AgreeOn v.config (by_columns columns) (replied_verdicts v.config one.rec replies) one.rec) (sym columns_are) (columns_agree v.config one.rec replies);
    }

-- ---- the proxy afterwards

-- where the replies tell something, a record is begun
pub some_begun : (begun : List BegunRecord) (v : ProxyView) (replies : Replies) (learned : Learned) → map record_of begun ≡ v.begun → IsLearned v replies learned → 0 < length begun
some_begun [] v replies learned are tells = let none : [] ≡ tells.rec ∷ tells.rest = are ∙ tells.begun_is in absurd (cc)
some_begun (first ∷ later) v replies learned are tells = omega arith

-- a record that is set to what it was leaves the records as they were
pub set_back : (begun : List BegunRecord) (now : BegunRecord) → 0 < length begun → now ≡ slice_index_or begun 0 now → slice_set begun 0 now ≡ begun
set_back [] now some is = absurd (omega (arith, some))
set_back (first ∷ later) now some is = ap (λ (b : BegunRecord). b ∷ later) is

-- and one that is changed leaves the later ones
pub later_left : (begun left : List BegunRecord) (now : BegunRecord) → left ≡ drop 1 (slice_set begun 0 now) → left ≡ drop 1 begun
later_left [] left now is = is
later_left (first ∷ later) left now is = is

-- the calls by which a proxy finishes its earliest record
pub record AreFinishing (v : ProxyView) (begun left : List BegunRecord) (grown : List JournalRow) (entries after : Entries) (one : BegunRecord) (learned : Learned) : Type 0 where
  pub some : 0 < length begun
  pub one_is : one ≡ slice_index_or begun 0 one
  pub left_is : left ≡ drop 1 begun
  pub grown_is : grown ≡ (v.journal ++ learned.told.items) ++ learned.own ∷ []
  pub after_is : after ≡ after_batch entries learned

metadata_grown : (journal told : List JournalRow) (own : JournalRow) → metadata ((journal ++ told) ++ own ∷ []) ≡ after_journal_row (fold after_journal_row (metadata journal) told) own
unfolding metadata
metadata_grown journal told own = fold-append after_journal_row [] (journal ++ told) (own ∷ []) ∙ ap (λ (entries : Entries). after_journal_row entries own) (fold-append after_journal_row [] journal told)

metadata_told : (journal told : List JournalRow) → metadata (journal ++ told) ≡ fold after_journal_row (metadata journal) told
unfolding metadata
metadata_told journal told = fold-append after_journal_row [] journal told

metadata_after : (v : ProxyView) (begun left : List BegunRecord) (grown : List JournalRow) (entries after : Entries) (one : BegunRecord) (learned : Learned) → AreFinishing v begun left grown entries after one learned → entries ≡ metadata v.journal → after ≡ metadata grown
metadata_after v begun left grown entries after one learned calls is =
    calls.after_is ∙ ap (λ (before : Entries). after_batch before learned) is ∙ sym (metadata_grown v.journal learned.told.items learned.own) ∙ ap metadata (sym calls.grown_is)

pub kept_finish : (v : ProxyView) (owned : OwnerMapView) (version last next : ℕ) (begun left : List BegunRecord) (grown : List JournalRow) (entries after : Entries) (one : BegunRecord) (learned : Learned)
    → IsKept v.config owned version last begun v.journal entries → AreFinishing v begun left grown entries after one learned → next ≡ one.rec.version → IsKept v.config owned next last left grown after
kept_finish v owned version last next [] left grown entries after one learned kept calls dated = absurd (omega (arith, calls.some))
kept_finish v owned version last next (first ∷ later) left grown entries after one learned kept calls dated =
    record {
      metadata_is = metadata_after v (first ∷ later) left grown entries after one learned calls kept.metadata_is;
      chain = subst (λ (list : List BegunRecord). AreBegun v.config next last list) (sym calls.left_is) (subst (λ (at : ℕ). AreBegun v.config at last later) (ap (λ (b : BegunRecord). b.rec.version) (sym calls.one_is) ∙ sym dated) kept.chain.2);
      resolvers = kept.resolvers;
      remembered = kept.remembered;
    }

-- the finished batch by columns
finished_columns : (config : Config) (columns : List (List Verdict)) (rec : Record) (journal told : List JournalRow) (own : JournalRow) → own ≡ journal_row config (by_columns columns) rec
    → finished_by_columns config columns (is_locked (fold after_journal_row (metadata journal) told)) (after_journal_row (fold after_journal_row (metadata journal) told) own) rec ≡ finished_after config (by_columns columns) (journal ++ told) rec
unfolding finished_after outcomes_after
finished_columns config columns rec journal told own is =
    ap (λ (before : Entries). finished_by_columns config columns (is_locked before) (after_journal_row (fold after_journal_row (metadata journal) told) own) rec) (sym (metadata_told journal told))
    ∙ ap (λ (after : Entries). finished_by_columns config columns (is_locked (metadata (journal ++ told))) after rec) (sym (metadata_grown journal told own))
    ∙ ap (λ (row : JournalRow). finished_by_columns config columns (is_locked (metadata (journal ++ told))) (metadata ((journal ++ told) ++ row ∷ [])) rec) is

first_of : (v : ProxyView) (begun left : List BegunRecord) (one : BegunRecord) (rec : Record) (rest : List Record) → 0 < length begun → one ≡ slice_index_or begun 0 one → left ≡ drop 1 begun → v.begun ≡ map record_of begun → v.begun ≡ rec ∷ rest → (one.rec ≡ rec) × (map record_of left ≡ rest)
first_of v [] left one rec rest some one_is left_is are is = absurd (omega (arith, some))
first_of v (first ∷ later) left one rec rest some one_is left_is are is =
    let both : first.rec ∷ map record_of later ≡ rec ∷ rest = sym are ∙ is in
    let head : first.rec ≡ rec = cc in
    let tail : map record_of later ≡ rest = cc in
    (ap (λ (b : BegunRecord). b.rec) one_is ∙ head, ap (map record_of) left_is ∙ tail)

pub has_finished : (v : ProxyView) (next : ℕ) (begun left : List BegunRecord) (grown : List JournalRow) (entries after : Entries) (one : BegunRecord) (learned : Learned) (replies : Replies) (finished : Finished)
    → AreFinishing v begun left grown entries after one learned → v.begun ≡ map record_of begun → entries ≡ metadata v.journal → next ≡ one.rec.version → IsLearned v replies learned
    → finished ≡ finished_by_columns v.config learned.columns.items (is_locked (after_told entries learned)) after one.rec
    → HasFinished v (record v { begun = map record_of left; version = next; journal = grown }) replies finished
has_finished v next begun left grown entries after one learned replies finished calls are is dated tells answer =
    let first = first_of v begun left one tells.rec tells.rest calls.some calls.one_is calls.left_is are tells.begun_is in
    let own_row = journal_row_alike v.config (by_columns learned.columns.items) (replied_verdicts v.config tells.rec replies) tells.rec tells.alike in
    let own : learned.own ≡ journal_row v.config (replied_verdicts v.config tells.rec replies) tells.rec = tells.own ∙ own_row in
    let grown_all : grown ≡ v.journal ++ learned.told.items ++ journal_row v.config (replied_verdicts v.config tells.rec replies) tells.rec ∷ [] =
    calls.grown_is ∙ ap (λ (row : JournalRow). v.journal ++ learned.told.items ++ row ∷ []) own in
    let version : next ≡ tells.rec.version = dated ∙ ap (λ (r : Record). r.version) first.0 in
    record {
      rec = tells.rec;
      rest = tells.rest;
      rows = learned.told.items;
      begun = tells.begun_is;
      agree = tells.agree;
      after = λ i. record v { begun = first.1 i; version = version i; journal = grown_all i };
      finished_is =
          answer
          ∙ ap (finished_by_columns v.config learned.columns.items (is_locked (after_told entries learned)) after) first.0
          ∙ ap (λ (now : Entries). finished_by_columns v.config learned.columns.items (is_locked (after_told entries learned)) now tells.rec) calls.after_is
          ∙ ap (λ (before : Entries). finished_by_columns v.config learned.columns.items (is_locked (after_told before learned)) (after_batch before learned) tells.rec) is
          ∙ finished_columns v.config learned.columns.items tells.rec v.journal learned.told.items learned.own tells.own
          ∙ finished_after_alike v.config (by_columns learned.columns.items) (replied_verdicts v.config tells.rec replies) (v.journal ++ learned.told.items) tells.rec tells.alike;
    }
