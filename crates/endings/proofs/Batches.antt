-- The batches that finish are those of the unfinished records, each once.
use Rattle.std.proofs.Common.{◌≡◌, refl, sym, ap, ◌∙◌, subst, ℕ, suc, ◌≤◌, ◌⊎◌, inl, inr, List, length, take, Bool, true, false, slice_get, slice_index, Option, Some, None, arith}
use Rattle.std.specs.Prelude.{Contains}
use Rattle.std.proofs.lemmas.List.{length-take-le}
use Rattle.std.proofs.lemmas.Option.{slice_get_within}
use Rattle.model.specs.Configs.{Config}
use Rattle.model.specs.declared.outcome.Finished.{Finished}
use Rattle.model.specs.Records.{Record, IsHistory, records_of_proxy}
use Rattle.model.specs.Journal.{history_verdicts}
use Rattle.model.specs.World.{World, Handled, Answer, Sequenced, Moved, Judged, Again, FinishedBatch, Refused, NoSuchRow, IsSound, finished_after, finished_batch, handle_event, answers, world_after}
use Rattle.model.proofs.Members.{Has-from_Contains, Contains-from_Has}
use Rattle.model.proofs.Verdicts.Places.{row_at}
use Rattle.model.proofs.Worlds.Runs.{own_place, set_other, set_same}
use Rattle.endings.specs.Work.{is_done}
use Rattle.endings.specs.Orders.{IsUnfinishedBatch, TheUnfinishedBatchesFinish, TheSameBatchesFinish}
use Rattle.endings.proofs.Steps.{Did, work_did}
use Rattle.endings.proofs.Orders.{work_keeps}
use Rattle.endings.proofs.Counters.{Raised, Left, Counters, Passed, tells, passed}

-- the finished batch of a record, by the history
abbrev pub batch_in : Config → List Record → Record → Finished
batch_in config h rec = finished_batch config (history_verdicts config h) (take rec.row h) rec

-- ---- the counters of finished records

abbrev pub is_completed : Answer → Bool
is_completed (Sequenced row version) = false
is_completed (Moved date) = false
is_completed (Judged reply) = false
is_completed (Again reply) = false
is_completed (FinishedBatch finished) = true
is_completed (Refused refusal) = false

-- the answer to a finish of a record
abbrev answer_at : Config → List Record → Option Record → Answer
answer_at config h None = Refused NoSuchRow
answer_at config h (Some rec) = FinishedBatch (batch_in config h rec)

-- that of the record of proxy p at a place among its records
abbrev answer_in : Config → List Record → (p place : ℕ) → Answer
answer_in config h p place = answer_at config h (slice_get (records_of_proxy p h) place)

undone_incomplete : (answer : Answer) → is_done answer ≡ false → is_completed answer ≡ false
undone_incomplete (Sequenced row version) undone = refl
undone_incomplete (Moved date) undone = refl
undone_incomplete (Judged reply) undone = refl
undone_incomplete (Again reply) undone = refl
undone_incomplete (FinishedBatch finished) undone = absurd (cc)
undone_incomplete (Refused refusal) undone = refl

-- the number of records that a proxy has finished
abbrev finished_count : World → ℕ → ℕ
finished_count w p = slice_index w.finished p

pub finished_step : (config : Config) (h : List Record) (w : World) (handled : Handled) → IsSound config w → w.history ≡ h → Did config w handled → Raised config.proxies finished_count (answer_in config h) w handled ⊎ Left finished_count is_completed w handled
finished_step config h w handled sound history (inl did) = inr (record { same = λ p. ap (λ (x : World). finished_count x p) did.world; answer = ap is_completed did.answer })
finished_step config h w handled sound history (inr (inr none)) = inr (record { same = λ p. ap (λ (x : World). finished_count x p) none.world; answer = undone_incomplete handled.answer none.answer })
finished_step config h w handled sound history (inr (inl did)) = inl (record {
  i = did.p;
  there = did.there;
  own = ap (λ (x : World). finished_count x did.p) did.world ∙ set_same w.finished did.p (suc (finished_count w did.p)) (omega (arith, did.there, sound.finished));
  others = λ q apart. ap (λ (x : World). finished_count x q) did.world ∙ set_other w.finished did.p (suc (finished_count w did.p)) q apart;
  answer = did.answer ∙ ap (answer_at config w.history) (sym did.turn) ∙ ap (λ (g : List Record). answer_in config g did.p (finished_count w did.p)) history;
})

-- a finished batch is of this record of proxy p, at this place among its records
record IsBatch (config : Config) (h : List Record) (p place : ℕ) (finished : Finished) : Type 0 where
  rec : Record
  at : slice_get (records_of_proxy p h) place ≡ Some rec
  is : finished ≡ batch_in config h rec
  row : finished.row ≡ rec.row

is_batch : (config : Config) (h : List Record) (p place : ℕ) (finished : Finished) → FinishedBatch finished ≡ answer_in config h p place → IsBatch config h p place finished
unfolding finished_after
is_batch config h p place finished answer = by (slice_get (records_of_proxy p h) place) refl answer
  where
    by : (found : Option Record) → slice_get (records_of_proxy p h) place ≡ found → FinishedBatch finished ≡ answer_at config h found → IsBatch config h p place finished
    by None at same = absurd (cc)
    by (Some rec) at same =
        let is : finished ≡ batch_in config h rec = cc in
        record { rec = rec; at = at; is = is; row = ap (λ (x : Finished). x.row) is }

-- a record stands once among those of its proxy
own_row : (config : Config) (h : List Record) (p k : ℕ) (rec : Record) → IsHistory config h → slice_get (records_of_proxy p h) k ≡ Some rec → (slice_get h rec.row ≡ Some rec) × (k ≡ length (records_of_proxy p (take rec.row h)))
own_row config h p k rec history at =
    let place = own_place p h k rec at in
    let row : rec.row ≡ place.i = row_at config h place.i rec history place.at in
    let count : length (take k (records_of_proxy p h)) ≡ k = length-take-le k (records_of_proxy p h) (omega (arith, slice_get_within (records_of_proxy p h) k rec at)) in
    (ap (slice_get h) row ∙ place.at, sym (ap (λ (i : ℕ). length (records_of_proxy p (take i h))) row ∙ ap length place.earlier ∙ count))

one_batch : (config : Config) (h : List Record) (p k q m : ℕ) (finished : Finished) → IsHistory config h → IsBatch config h p k finished → IsBatch config h q m finished → (p ≡ q) × (k ≡ m)
one_batch config h p k q m finished history a b =
    let row : a.rec.row ≡ b.rec.row = sym a.row ∙ b.row in
    let one = own_row config h p k a.rec history a.at in
    let other = own_row config h q m b.rec history b.at in
    let some : Some a.rec ≡ Some b.rec = sym one.0 ∙ ap (slice_get h) row ∙ other.0 in
    let rec_is : a.rec ≡ b.rec = cc in
    let proxy : p ≡ q = sym (own_place p h k a.rec a.at).own ∙ ap (λ (x : Record). x.proxy) rec_is ∙ (own_place q h m b.rec b.at).own in
    (proxy, one.1 ∙ (λ i. length (records_of_proxy (proxy i) (take (row i) h))) ∙ sym other.1)

pub finished_one : (config : Config) (h : List Record) (p k q m : ℕ) → IsHistory config h → is_completed (answer_in config h p k) ≡ true → answer_in config h p k ≡ answer_in config h q m → (p ≡ q) × (k ≡ m)
finished_one config h p k q m history told same = by (answer_in config h p k) refl told
  where
    by : (answer : Answer) → answer_in config h p k ≡ answer → is_completed answer ≡ true → (p ≡ q) × (k ≡ m)
    by (Sequenced n version) is completed = absurd (cc)
    by (Moved date) is completed = absurd (cc)
    by (Judged reply) is completed = absurd (cc)
    by (Again reply) is completed = absurd (cc)
    by (Refused refusal) is completed = absurd (cc)
    by (FinishedBatch finished) is completed = one_batch config h p k q m finished history (is_batch config h p k finished (sym is)) (is_batch config h q m finished (sym is ∙ same))

abbrev pub finished_records : (config : Config) (h : List Record) → IsHistory config h → Counters config h
finished_records config h history = record {
  size = config.proxies;
  count = finished_count;
  told = answer_in config h;
  is_told = is_completed;
  step = λ w event sound same work. finished_step config h w (handle_event config w event) sound same (work_did config w event sound work);
  one = λ p k q m told same. finished_one config h p k q m history told same;
}

-- ---- the law

unfinished_from : (config : Config) (w : World) (finished : Finished) (sound : IsSound config w) → Passed config w.history (finished_records config w.history sound.sequencer.history) w (FinishedBatch finished) → IsUnfinishedBatch config w finished
unfinished_from config w finished sound from =
    let is = is_batch config w.history from.i from.n finished from.is in
    let own : is.rec.proxy ≡ from.i = (own_place from.i w.history from.n is.rec is.at).own in
    let low : slice_index w.finished from.i ≤ from.n = from.low in
    let same : slice_index w.finished is.rec.proxy ≡ slice_index w.finished from.i = ap (slice_index w.finished) own in
    record {
      rec = is.rec;
      proxy = omega (arith, own, from.there);
      place = from.n;
      at = ap (λ (p : ℕ). slice_get (records_of_proxy p w.history) from.n) own ∙ is.at;
      unfinished = omega (arith, same, low);
      batch = is.is;
    }

pub unfinished_finish : TheUnfinishedBatchesFinish
unfinished_finish config w events finished sound work all = (
  λ told. unfinished_from config w finished sound (passed config w.history (finished_records config w.history sound.sequencer.history) w events (FinishedBatch finished) (record { sound = sound; history = refl; work = work }) refl (Has-from_Contains (answers config w events) (FinishedBatch finished) told)),
  λ is.
      let count : slice_index (world_after config w events).finished is.rec.proxy ≡ length (records_of_proxy is.rec.proxy w.history) = all is.rec.proxy is.proxy ∙ ap (λ (h : List Record). length (records_of_proxy is.rec.proxy h)) (work_keeps config w events sound work).history in
      let has = tells config w.history (finished_records config w.history sound.sequencer.history) w events is.rec.proxy is.place (record { sound = sound; history = refl; work = work }) is.unfinished (omega (arith, count, slice_get_within (records_of_proxy is.rec.proxy w.history) is.place is.rec is.at)) in
      let answer : answer_in config w.history is.rec.proxy is.place ≡ FinishedBatch finished = ap (answer_at config w.history) is.at ∙ ap (λ (x : Finished). FinishedBatch x) (sym is.batch) in
      subst (Contains (answers config w events)) answer (Contains-from_Has (answers config w events) (answer_in config w.history is.rec.proxy is.place) has),
)

pub same_batches : TheSameBatchesFinish
same_batches config w events others finished both told =
    (unfinished_finish config w others finished both.sound both.other_work both.other_finished).1
    ((unfinished_finish config w events finished both.sound both.work both.finished).0 told)
