-- What a proxy learns from replies that the resolvers give by a source of verdicts, and the same in a world.
use Rattle.std.proofs.Common.{◌≡◌, refl, sym, ap, ◌∙◌, subst, ℕ, suc, ◌+◌, ◌*◌, ◌<◌, ◌≤◌, ◌⊎◌, inl, inr, List, [], ◌∷◌, ◌++◌, length, take, drop, filter, Bool, true, false, if◌then◌else◌, nat_eq, slice_get, slice_index, slice_set, Some, length-append, arith}
use Rattle.std.proofs.Math.Nat.{add-mul}
use Rattle.std.proofs.Math.Seq.{drop-append_seam}
use Rattle.std.proofs.lemmas.List.{length-take-le}
use Rattle.std.proofs.lemmas.Option.{slice_get_within}
use Rattle.model.specs.Configs.{Config, IsConfig}
use Rattle.model.specs.declared.journal.JournalRow.{JournalRow}
use Rattle.model.specs.declared.outcome.Finished.{Finished}
use Rattle.model.specs.Transactions.{StampedTransaction}
use Rattle.model.specs.Records.{Record, IsHistory, last_version, records_of_proxy}
use Rattle.model.specs.Shares.{share, share_back_to, asks}
use Rattle.model.specs.Verdicts.{share_verdicts}
use Rattle.model.specs.Journal.{VerdictSource, history_verdicts, verdict_or_conflict, journal_row, journal, is_after}
use Rattle.model.specs.World.{World, Finish, FinishedBatch, Handled, up_to_version, rows_up_to, reply_of, reply_with, finished_after, finished_batch, handle_event, finished_version, proxy_journal}
use Rattle.model.specs.Finishing.{Replies, reply_from, replied_verdicts, AgreeOnRows, AreRepliesBy, LeadTo, version_at, ProxyView, HasFinished}
use Rattle.model.specs.Laws.Proxies.{unseen_rows, journal_up_to, MayFinish, IsBefore, IsAfter}
use Rattle.model.proofs.Shares.Askers.{share_verdicts_are, verdict_at_asker, journal_row_alike}
use Rattle.model.proofs.Verdicts.Places.{row_at}
use Rattle.model.proofs.Journals.ReplyRows.{unseen_is_told, split_at_version}
use Rattle.model.proofs.Agreement.AgreeingSources.{finished_after_alike}
use Rattle.model.proofs.Agreement.Sources.{history_take, journal_append, journal_push}
use Rattle.model.proofs.History.Chain.{slice_get-drop, versions_at, own_up_to_previous, rows_up_to_record, rows_up_to_none}
use Rattle.model.proofs.Shares.Forgetting.{length-share_verdicts}
use Rattle.model.proofs.Worlds.Runs.{own_place, turn_is, up_to_own, up_to_before, finish_is, journal_grown}
use Rattle.model.proofs.Proxies.AgreeingReplies.{one_list, lead_from}
use Rattle.model.proofs.History.Rows.{journal_counted, row_record, all_verdicts}
use Rattle.model.proofs.Agreement.Columns.{replies_say}

-- ---- the version of a proxy's record before

-- the last version of some records is 0, or that of one of them
abbrev IsOfOne : ℕ → List Record → Type 0
IsOfOne version records = (version ≡ 0) ⊎ ((i : ℕ) × (rec : Record) × (slice_get records i ≡ Some rec) × (rec.version ≡ version))

behind : (x : Record) (records : List Record) (version : ℕ) → (i : ℕ) × (rec : Record) × (slice_get records i ≡ Some rec) × (rec.version ≡ version) → (i : ℕ) × (rec : Record) × (slice_get (x ∷ records) i ≡ Some rec) × (rec.version ≡ version)
behind x records version (i, rec, at, is) = (suc i, rec, at, is)

last_of_one : (p : ℕ) (h : List Record) → IsOfOne (last_version (records_of_proxy p h)) h
last_of_one p [] = inl refl
last_of_one p (x ∷ h) = by (nat_eq x.proxy p) (records_of_proxy p h) refl (last_of_one p h)
  where
    longer : (version : ℕ) → IsOfOne version h → IsOfOne version (x ∷ h)
    longer version (inl none) = inl none
    longer version (inr found) = inr (behind x h version found)

    first : (rest : List Record) → rest ≡ records_of_proxy p h → IsOfOne (last_version (records_of_proxy p h)) h → IsOfOne (last_version (x ∷ rest)) (x ∷ h)
    first [] is later = inr (0, x, refl, refl)
    first (y ∷ rest) is later = longer (last_version (y ∷ rest)) (subst (λ (rs : List Record). IsOfOne (last_version rs) h) (sym is) later)

    by : (t : Bool) (rest : List Record) → rest ≡ records_of_proxy p h → IsOfOne (last_version (records_of_proxy p h)) h → IsOfOne (last_version (if t then x ∷ rest else rest)) (x ∷ h)
    by true rest is later = first rest is later
    by false rest is later = longer (last_version rest) (subst (λ (rs : List Record). IsOfOne (last_version rs) h) (sym is) later)

-- it is as many steps as there are rows up to it
own_steps : (config : Config) (h : List Record) (i : ℕ) (rec : Record) → 1 ≤ config.step → IsHistory config h → slice_get h i ≡ Some rec → rec.own_previous ≡ rows_up_to rec.own_previous (take i h) * config.step
own_steps config h i rec stepping history at = by (last_of_one rec.proxy (take i h))
  where
    own : rec.own_previous ≡ last_version (records_of_proxy rec.proxy (take i h))
    own = (history i rec at).own_previous

    before : IsHistory config (take i h)
    before = history_take config h i history

    by : IsOfOne (last_version (records_of_proxy rec.proxy (take i h))) (take i h) → rec.own_previous ≡ rows_up_to rec.own_previous (take i h) * config.step
    by (inl none) =
        let start : rec.own_previous ≡ 0 = own ∙ none in
        let rows : rows_up_to rec.own_previous (take i h) ≡ 0 = ap (λ (version : ℕ). rows_up_to version (take i h)) start ∙ rows_up_to_none config (take i h) stepping before in
        let nothing : 0 * config.step ≡ 0 = omega arith in
        start ∙ sym nothing ∙ ap (λ (n : ℕ). n * config.step) (sym rows)
    by (inr (k, found, there, is)) =
        let same : found.version ≡ rec.own_previous = is ∙ sym own in
        let rows : rows_up_to rec.own_previous (take i h) ≡ suc k = ap (λ (version : ℕ). rows_up_to version (take i h)) (sym same) ∙ rows_up_to_record config (take i h) k found stepping before there in
        sym same ∙ (versions_at config (take i h) k found before there).1 ∙ ap (λ (n : ℕ). n * config.step) (sym rows)

-- ---- replies by a source agree on the rows of its journal

unseen_are_last : (config : Config) (h : List Record) (version : ℕ) → IsHistory config h → filter (is_after version) h ≡ drop (rows_up_to version h) h
unseen_are_last config h version history =
    sym (ap (drop (rows_up_to version h)) (sym (split_at_version config h version history)) ∙ drop-append_seam (up_to_version version h) (filter (is_after version) h))

rows_lead : (config : Config) (verdict_by : VerdictSource) (h : List Record) (i : ℕ) (rec : Record) → 1 ≤ config.step → IsHistory config h → slice_get h i ≡ Some rec → LeadTo config.step rec.own_previous rec.previous (journal config verdict_by (filter (is_after rec.own_previous) (take i h)))
rows_lead config verdict_by h i rec stepping history at = lead_from config.step rec.own_previous rec.previous (journal config verdict_by (filter (is_after rec.own_previous) (take i h))) each last
  where
    before : IsHistory config (take i h)
    before = history_take config h i history

    seen : ℕ
    seen = rows_up_to rec.own_previous (take i h)

    own : rec.own_previous ≡ seen * config.step
    own = own_steps config h i rec stepping history at

    unseen_is : filter (is_after rec.own_previous) (take i h) ≡ drop seen (take i h)
    unseen_is = unseen_are_last config (take i h) rec.own_previous before

    each : (k : ℕ) (row : JournalRow) → slice_get (journal config verdict_by (filter (is_after rec.own_previous) (take i h))) k ≡ Some row → row.version ≡ version_at config.step rec.own_previous k
    each k row there =
        let found = row_record config verdict_by (filter (is_after rec.own_previous) (take i h)) k row there in
        let place : slice_get (take i h) (seen + k) ≡ Some found.0 = slice_get-drop (take i h) seen k (seen + k) found.0 refl (ap (λ (rs : List Record). slice_get rs k) (sym unseen_is) ∙ found.1) in
        let version : found.0.version ≡ suc (seen + k) * config.step = (versions_at config (take i h) (seen + k) found.0 before place).1 in
        let parts : (seen + suc k) * config.step ≡ seen * config.step + suc k * config.step = add-mul seen (suc k) config.step in
        let sum : suc (seen + k) ≡ seen + suc k = omega arith in
        found.3 ∙ version ∙ ap (λ (n : ℕ). n * config.step) sum ∙ parts ∙ ap (λ (n : ℕ). n + suc k * config.step) (sym own)

    all : seen + length (filter (is_after rec.own_previous) (take i h)) ≡ i
    all =
        let within : i < length h = slice_get_within h i rec at in
        sym (length-append (up_to_version rec.own_previous (take i h)) (filter (is_after rec.own_previous) (take i h)))
        ∙ ap (λ (rs : List Record). length rs) (split_at_version config (take i h) rec.own_previous before)
        ∙ length-take-le i h (omega (arith, within))

    last : rec.own_previous + length (journal config verdict_by (filter (is_after rec.own_previous) (take i h))) * config.step ≡ rec.previous
    last =
        let count : ℕ = length (filter (is_after rec.own_previous) (take i h)) in
        ap (λ (n : ℕ). rec.own_previous + n * config.step) (journal_counted config verdict_by (filter (is_after rec.own_previous) (take i h)))
        ∙ ap (λ (n : ℕ). n + count * config.step) own
        ∙ sym (add-mul seen count config.step)
        ∙ ap (λ (n : ℕ). n * config.step) all
        ∙ sym (versions_at config h i rec history at).0

pub true_agree : (config : Config) (verdict_by : VerdictSource) (h : List Record) (rec : Record) (replies : Replies) → 1 ≤ config.step → IsHistory config h → slice_get h rec.row ≡ Some rec → AreRepliesBy config verdict_by (take rec.row h) rec replies → AgreeOnRows config rec.own_previous rec replies (unseen_rows config verdict_by h rec)
true_agree config verdict_by h rec replies stepping history at replied =
    record {
      replied = λ r below.
          let (verdicts, there, size, same) = replied r below in (
            reply_with verdicts verdict_by r (take rec.row h) rec,
            there,
            record { resolver = refl; proxy = refl; row = refl; version = refl; verdicts = size },
            unseen_is_told config verdict_by r (take rec.row h) rec below,
          );
      verdicts = λ row there. all_verdicts config verdict_by (filter (is_after rec.own_previous) (take rec.row h)) row there;
      lead = rows_lead config verdict_by h rec.row rec stepping history at;
    }

-- ---- and the record finished by them is that by the source

-- the journal up to the proxy's record before, and the unseen rows, are those of the records before
rows_before : (config : Config) (verdict_by : VerdictSource) (h : List Record) (rec : Record) → 1 ≤ config.step → IsHistory config h → slice_get h rec.row ≡ Some rec → journal_up_to config verdict_by h rec.own_previous ++ unseen_rows config verdict_by h rec ≡ journal config verdict_by (take rec.row h)
rows_before config verdict_by h rec stepping history at =
    sym (journal_append config verdict_by (up_to_version rec.own_previous h) (filter (is_after rec.own_previous) (take rec.row h)))
    ∙ ap (λ (rs : List Record). journal config verdict_by (rs ++ filter (is_after rec.own_previous) (take rec.row h))) (up_to_before config h rec.row rec rec.own_previous stepping history at (own_up_to_previous config h rec.row rec history at))
    ∙ ap (journal config verdict_by) (split_at_version config (take rec.row h) rec.own_previous (history_take config h rec.row history))

pub true_finish : (config : Config) (verdict_by : VerdictSource) (h : List Record) (rec : Record) (replies : Replies) (rows : List JournalRow) → IsConfig config → IsHistory config h → slice_get h rec.row ≡ Some rec → AreRepliesBy config verdict_by (take rec.row h) rec replies → AgreeOnRows config rec.own_previous rec replies rows
    → finished_after config (replied_verdicts config rec replies) (journal_up_to config verdict_by h rec.own_previous ++ rows) rec ≡ finished_batch config verdict_by (take rec.row h) rec
true_finish config verdict_by h rec replies rows limits history at replied agree =
    let same : rows ≡ unseen_rows config verdict_by h rec = one_list config rec.own_previous rec replies rows (unseen_rows config verdict_by h rec) limits.resolvers.0 agree (true_agree config verdict_by h rec replies limits.step.0 history at replied) in
    finished_after_alike config (replied_verdicts config rec replies) verdict_by (journal_up_to config verdict_by h rec.own_previous ++ rows) rec (replies_say config verdict_by (take rec.row h) rec replies replied)
    ∙ ap (λ (rs : List JournalRow). finished_after config verdict_by (journal_up_to config verdict_by h rec.own_previous ++ rs) rec) same
    ∙ ap (λ (before : List JournalRow). finished_after config verdict_by before rec) (rows_before config verdict_by h rec limits.step.0 history at)

pub true_journal : (config : Config) (verdict_by : VerdictSource) (h : List Record) (rec : Record) (replies : Replies) (rows : List JournalRow) → IsConfig config → IsHistory config h → slice_get h rec.row ≡ Some rec → AreRepliesBy config verdict_by (take rec.row h) rec replies → AgreeOnRows config rec.own_previous rec replies rows
    → journal_up_to config verdict_by h rec.own_previous ++ rows ++ journal_row config (replied_verdicts config rec replies) rec ∷ [] ≡ journal_up_to config verdict_by h rec.version
true_journal config verdict_by h rec replies rows limits history at replied agree =
    let same : rows ≡ unseen_rows config verdict_by h rec = one_list config rec.own_previous rec replies rows (unseen_rows config verdict_by h rec) limits.resolvers.0 agree (true_agree config verdict_by h rec replies limits.step.0 history at replied) in
    let own : journal_row config (replied_verdicts config rec replies) rec ≡ journal_row config verdict_by rec = journal_row_alike config (replied_verdicts config rec replies) verdict_by rec (replies_say config verdict_by (take rec.row h) rec replies replied) in
    (λ i. journal_up_to config verdict_by h rec.own_previous ++ same i ++ own i ∷ [])
    ∙ ap (λ (rs : List JournalRow). rs ++ journal_row config verdict_by rec ∷ []) (sym (journal_append config verdict_by (up_to_version rec.own_previous h) (filter (is_after rec.own_previous) (take rec.row h))))
    ∙ sym (journal_push config verdict_by (up_to_version rec.own_previous h ++ filter (is_after rec.own_previous) (take rec.row h)) rec)
    ∙ ap (journal config verdict_by) (sym (up_to_own config h rec.row rec limits.step.0 history at))

tail_is : (x : Record) (xs : List Record) (y : Record) (ys : List Record) → x ∷ xs ≡ y ∷ ys → (x ≡ y) × (xs ≡ ys)
tail_is x xs y ys same = (cc, cc)

pub true_in_step : (verdict_by : VerdictSource) (h : List Record) (v new : ProxyView) (rec : Record) (rest : List Record) (replies : Replies) (finished : Finished) → IsBefore verdict_by h v rec → v.begun ≡ rec ∷ rest → AreRepliesBy v.config verdict_by (take rec.row h) rec replies → HasFinished v new replies finished
    → IsAfter verdict_by h v new rec rest × (finished ≡ finished_batch v.config verdict_by (take rec.row h) rec)
true_in_step verdict_by h v new rec rest replies finished before begun replied has = (
  record {
    at = ap (λ (f : ProxyView). f.version) has.after ∙ ap (λ (r : Record). r.version) same;
    begun = ap (λ (f : ProxyView). f.begun) has.after ∙ parts.1;
    journal_is =
        ap (λ (f : ProxyView). f.journal) has.after
        ∙ (λ i. since i ++ has.rows ++ journal_row v.config (replied_verdicts v.config (same i) replies) (same i) ∷ [])
        ∙ true_journal v.config verdict_by h rec replies has.rows before.limits before.history_is before.there replied agree
        ∙ ap (journal_up_to v.config verdict_by h) (sym (ap (λ (f : ProxyView). f.version) has.after ∙ ap (λ (r : Record). r.version) same));
  },
  has.finished_is
      ∙ (λ i. finished_after v.config (replied_verdicts v.config (same i) replies) (since i ++ has.rows) (same i))
      ∙ true_finish v.config verdict_by h rec replies has.rows before.limits before.history_is before.there replied agree,
)
  where
    parts : (has.rec ≡ rec) × (has.rest ≡ rest)
    parts = tail_is has.rec has.rest rec rest (sym has.begun ∙ begun)

    same : has.rec ≡ rec
    same = parts.0

    since : v.journal ≡ journal_up_to v.config verdict_by h rec.own_previous
    since = before.journal_is ∙ ap (journal_up_to v.config verdict_by h) before.at

    agree : AgreeOnRows v.config rec.own_previous rec replies has.rows
    agree = subst (λ (version : ℕ). AgreeOnRows v.config version rec replies has.rows) before.at (subst (λ (r : Record). AgreeOnRows v.config v.version r replies has.rows) same has.agree)

-- ---- in a world

said_of_share : (config : Config) (h : List Record) (r i n : ℕ) (rec : Record) (t : StampedTransaction) → slice_get h i ≡ Some rec → slice_get rec.batch n ≡ Some t → asks config rec r t ≡ true → verdict_or_conflict (share config rec r) (share_verdicts config r (take i h) rec) n ≡ history_verdicts config h r i n
unfolding history_verdicts share_back_to
said_of_share config h r i n rec t at there asking =
    rw (at, there, share_verdicts_are config r (take i h) rec) (verdict_at_asker config r (take i h) rec [] rec.batch 0 n n t refl (omega arith) there asking)

pub world_replies : (config : Config) (h : List Record) (rec : Record) (replies : Replies) → IsHistory config h → slice_get h rec.row ≡ Some rec → ((r : ℕ) → r < config.resolvers → reply_from replies r ≡ Some (reply_of config (history_verdicts config h) r (take rec.row h) rec)) → AreRepliesBy config (history_verdicts config h) (take rec.row h) rec replies
world_replies config h rec replies history at each r below = (
  share_verdicts config r (take rec.row h) rec,
  each r below,
  length-share_verdicts config r (take rec.row h) rec,
  λ n t there asking. said_of_share config h r rec.row n rec t at there asking,
)

-- where the record of a proxy stands in the history
in_history : (config : Config) (w : World) (p : ℕ) (rec : Record) (replies : Replies) → MayFinish config w p rec replies → slice_get w.history rec.row ≡ Some rec
in_history config w p rec replies may =
    let place = own_place p w.history (slice_index w.finished p) rec may.turn in
    let row : rec.row ≡ place.i = row_at config w.history place.i rec may.sound.sequencer.history place.at in
    ap (slice_get w.history) row ∙ place.at

agree_since : (config : Config) (w : World) (p : ℕ) (rec : Record) (replies : Replies) (rows : List JournalRow) → MayFinish config w p rec replies → AgreeOnRows config (finished_version w p) rec replies rows → AgreeOnRows config rec.own_previous rec replies rows
agree_since config w p rec replies rows may agree =
    subst (λ (version : ℕ). AgreeOnRows config version rec replies rows) (turn_is config w p rec may.sound may.turn) agree

-- the journal of a proxy, by the version of its record before
journal_since : (config : Config) (w : World) (p : ℕ) (rec : Record) → finished_version w p ≡ rec.own_previous → proxy_journal config w p ≡ journal_up_to config (history_verdicts config w.history) w.history rec.own_previous
unfolding proxy_journal
journal_since config w p rec same = ap (λ (version : ℕ). journal_up_to config (history_verdicts config w.history) w.history version) same

pub world_finish : (config : Config) (w : World) (p : ℕ) (rec : Record) (replies : Replies) (rows : List JournalRow) → IsConfig config → MayFinish config w p rec replies → AgreeOnRows config (finished_version w p) rec replies rows
    → handle_event config w (Finish p) ≡ record { world = record w { finished = slice_set w.finished p (suc (slice_index w.finished p)) }; answer = FinishedBatch (finished_after config (replied_verdicts config rec replies) (proxy_journal config w p ++ rows) rec) }
world_finish config w p rec replies rows limits may agree =
    finish_is config w p rec may.there may.turn may.judged
    ∙ ap answered (sym finished ∙ ap (λ (before : List JournalRow). finished_after config (replied_verdicts config rec replies) (before ++ rows) rec) (sym (journal_since config w p rec (turn_is config w p rec may.sound may.turn))))
  where
    answered : Finished → Handled
    answered batch = record { world = record w { finished = slice_set w.finished p (suc (slice_index w.finished p)) }; answer = FinishedBatch batch }

    finished : finished_after config (replied_verdicts config rec replies) (journal_up_to config (history_verdicts config w.history) w.history rec.own_previous ++ rows) rec ≡ finished_batch config (history_verdicts config w.history) (take rec.row w.history) rec
    finished = true_finish config (history_verdicts config w.history) w.history rec replies rows limits may.sound.sequencer.history (in_history config w p rec replies may) may.replied (agree_since config w p rec replies rows may agree)

pub world_journal : (config : Config) (w : World) (p : ℕ) (rec : Record) (replies : Replies) (rows : List JournalRow) → IsConfig config → MayFinish config w p rec replies → AgreeOnRows config (finished_version w p) rec replies rows
    → proxy_journal config (handle_event config w (Finish p)).world p ≡ proxy_journal config w p ++ rows ++ journal_row config (replied_verdicts config rec replies) rec ∷ []
world_journal config w p rec replies rows limits may agree =
    let same : rows ≡ unseen_rows config (history_verdicts config w.history) w.history rec =
    one_list config rec.own_previous rec replies rows (unseen_rows config (history_verdicts config w.history) w.history rec) limits.resolvers.0 (agree_since config w p rec replies rows may agree)
    (true_agree config (history_verdicts config w.history) w.history rec replies limits.step.0 may.sound.sequencer.history (in_history config w p rec replies may) may.replied) in
    let own : journal_row config (replied_verdicts config rec replies) rec ≡ journal_row config (history_verdicts config w.history) rec = journal_row_alike config (replied_verdicts config rec replies) (history_verdicts config w.history) rec (replies_say config (history_verdicts config w.history) (take rec.row w.history) rec replies may.replied) in
    journal_grown config w p rec limits may.sound may.there may.turn may.judged
    ∙ (λ i. proxy_journal config w p ++ sym same i ++ sym own i ∷ [])
