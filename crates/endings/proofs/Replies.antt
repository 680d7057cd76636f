-- The replies of resolvers that judge are those to the unjudged rows, each given once.
use Rattle.std.proofs.Common.{◌≡◌, refl, sym, ap, ◌∙◌, subst, ℕ, suc, ◌≤◌, ◌⊎◌, inl, inr, List, length, take, Bool, true, false, slice_get, slice_index, Option, Some, None, arith}
use Rattle.std.specs.Prelude.{Contains}
use Rattle.std.proofs.lemmas.Option.{slice_get_within}
use Rattle.model.specs.Configs.{Config}
use Rattle.model.specs.declared.reply.Reply.{Reply}
use Rattle.model.specs.Records.{Record, IsHistory}
use Rattle.model.specs.Journal.{history_verdicts}
use Rattle.model.specs.World.{World, Handled, Answer, Sequenced, Moved, Judged, Again, FinishedBatch, Refused, NoSuchRow, IsSound, reply_of, handle_event, answers, world_after}
use Rattle.model.proofs.Members.{Has-from_Contains, Contains-from_Has}
use Rattle.model.proofs.Verdicts.Places.{row_at}
use Rattle.model.proofs.Worlds.Histories.{world_after_sound}
use Rattle.model.proofs.Worlds.Runs.{set_other, set_same}
use Rattle.endings.specs.Work.{is_done}
use Rattle.endings.specs.Orders.{IsUnjudgedReply, TheUnjudgedRowsAreJudged, TheSameRepliesAreGiven}
use Rattle.endings.proofs.Steps.{Did, work_did}
use Rattle.endings.proofs.Completion.{all_judged}
use Rattle.endings.proofs.Orders.{work_keeps}
use Rattle.endings.proofs.Counters.{Raised, Left, Counters, Passed, tells, passed}

-- the reply of a resolver to a record of a row, by the history
abbrev pub reply_in : Config → List Record → (r row : ℕ) → Record → Reply
reply_in config h r row rec = reply_of config (history_verdicts config h) r (take row h) rec

-- ---- the counters of judged rows

abbrev pub is_judged : Answer → Bool
is_judged (Sequenced row version) = false
is_judged (Moved date) = false
is_judged (Judged reply) = true
is_judged (Again reply) = false
is_judged (FinishedBatch finished) = false
is_judged (Refused refusal) = false

-- the answer of a resolver that judges a row
abbrev answer_at : Config → List Record → (r row : ℕ) → Option Record → Answer
answer_at config h r row None = Refused NoSuchRow
answer_at config h r row (Some rec) = Judged (reply_in config h r row rec)

abbrev answer_in : Config → List Record → (r row : ℕ) → Answer
answer_in config h r row = answer_at config h r row (slice_get h row)

undone_unjudged : (answer : Answer) → is_done answer ≡ false → is_judged answer ≡ false
undone_unjudged (Sequenced row version) undone = refl
undone_unjudged (Moved date) undone = refl
undone_unjudged (Judged reply) undone = absurd (cc)
undone_unjudged (Again reply) undone = refl
undone_unjudged (FinishedBatch finished) undone = refl
undone_unjudged (Refused refusal) undone = refl

-- the number of rows that a resolver has judged
abbrev judged_count : World → ℕ → ℕ
judged_count w r = slice_index w.judged_counts r

pub judged_step : (config : Config) (h : List Record) (w : World) (handled : Handled) → IsSound config w → w.history ≡ h → Did config w handled → Raised config.resolvers judged_count (answer_in config h) w handled ⊎ Left judged_count is_judged w handled
judged_step config h w handled sound history (inl did) = inl (record {
  i = did.r;
  there = did.there;
  own = ap (λ (x : World). judged_count x did.r) did.world ∙ set_same w.judged_counts did.r (suc (judged_count w did.r)) (omega (arith, did.there, sound.judged_counts));
  others = λ s apart. ap (λ (x : World). judged_count x s) did.world ∙ set_other w.judged_counts did.r (suc (judged_count w did.r)) s apart;
  answer = did.answer ∙ ap (answer_at config w.history did.r (judged_count w did.r)) (sym did.at) ∙ ap (λ (g : List Record). answer_in config g did.r (judged_count w did.r)) history;
})
judged_step config h w handled sound history (inr (inl did)) = inr (record { same = λ s. ap (λ (x : World). judged_count x s) did.world; answer = ap is_judged did.answer })
judged_step config h w handled sound history (inr (inr none)) = inr (record { same = λ s. ap (λ (x : World). judged_count x s) none.world; answer = undone_unjudged handled.answer none.answer })

-- an answer that judges is a reply of this resolver to this row
record IsReply (config : Config) (h : List Record) (r row : ℕ) (reply : Reply) : Type 0 where
  rec : Record
  at : slice_get h row ≡ Some rec
  is : reply ≡ reply_in config h r row rec
  resolver : reply.resolver ≡ r
  row_is : reply.row ≡ row

is_reply : (config : Config) (h : List Record) (r row : ℕ) (reply : Reply) → IsHistory config h → Judged reply ≡ answer_in config h r row → IsReply config h r row reply
is_reply config h r row reply history answer = by (slice_get h row) refl answer
  where
    by : (found : Option Record) → slice_get h row ≡ found → Judged reply ≡ answer_at config h r row found → IsReply config h r row reply
    by None at same = absurd (cc)
    by (Some rec) at same =
        let is : reply ≡ reply_in config h r row rec = cc in
        record {
          rec = rec;
          at = at;
          is = is;
          resolver = ap (λ (x : Reply). x.resolver) is;
          row_is = ap (λ (x : Reply). x.row) is ∙ row_at config h row rec history at;
        }

pub judged_one : (config : Config) (h : List Record) (r row s other : ℕ) → IsHistory config h → is_judged (answer_in config h r row) ≡ true → answer_in config h r row ≡ answer_in config h s other → (r ≡ s) × (row ≡ other)
judged_one config h r row s other history told same = by (answer_in config h r row) refl told
  where
    by : (answer : Answer) → answer_in config h r row ≡ answer → is_judged answer ≡ true → (r ≡ s) × (row ≡ other)
    by (Sequenced n version) is judged = absurd (cc)
    by (Moved date) is judged = absurd (cc)
    by (Again reply) is judged = absurd (cc)
    by (FinishedBatch finished) is judged = absurd (cc)
    by (Refused refusal) is judged = absurd (cc)
    by (Judged reply) is judged =
        let one = is_reply config h r row reply history (sym is) in
        let two = is_reply config h s other reply history (sym is ∙ same) in
        (sym one.resolver ∙ two.resolver, sym one.row_is ∙ two.row_is)

abbrev pub judged_rows : (config : Config) (h : List Record) → IsHistory config h → Counters config h
judged_rows config h history = record {
  size = config.resolvers;
  count = judged_count;
  told = answer_in config h;
  is_told = is_judged;
  step = λ w event sound same work. judged_step config h w (handle_event config w event) sound same (work_did config w event sound work);
  one = λ r row s other told same. judged_one config h r row s other history told same;
}

-- ---- the law

unjudged_from : (config : Config) (w : World) (reply : Reply) (sound : IsSound config w) → Passed config w.history (judged_rows config w.history sound.sequencer.history) w (Judged reply) → IsUnjudgedReply config w reply
unjudged_from config w reply sound from =
    let is = is_reply config w.history from.i from.n reply sound.sequencer.history from.is in
    let low : slice_index w.judged_counts from.i ≤ from.n = from.low in
    let same : slice_index w.judged_counts reply.resolver ≡ slice_index w.judged_counts from.i = ap (slice_index w.judged_counts) is.resolver in
    record {
      rec = is.rec;
      resolver = omega (arith, is.resolver, from.there);
      at = ap (slice_get w.history) is.row_is ∙ is.at;
      unjudged = omega (arith, same, low, is.row_is);
      is = is.is ∙ (λ i. reply_in config w.history (sym is.resolver i) (sym is.row_is i) is.rec);
    }

pub unjudged_judged : TheUnjudgedRowsAreJudged
unjudged_judged config w events reply sound work all = (
  λ told. unjudged_from config w reply sound (passed config w.history (judged_rows config w.history sound.sequencer.history) w events (Judged reply) (record { sound = sound; history = refl; work = work }) refl (Has-from_Contains (answers config w events) (Judged reply) told)),
  λ is.
      let end : World = world_after config w events in
      let count : slice_index end.judged_counts reply.resolver ≡ length w.history = all_judged config end (world_after_sound config w events sound) all reply.resolver is.resolver ∙ ap length (work_keeps config w events sound work).history in
      let has = tells config w.history (judged_rows config w.history sound.sequencer.history) w events reply.resolver reply.row (record { sound = sound; history = refl; work = work }) is.unjudged (omega (arith, count, slice_get_within w.history reply.row is.rec is.at)) in
      let answer : answer_in config w.history reply.resolver reply.row ≡ Judged reply = ap (answer_at config w.history reply.resolver reply.row) is.at ∙ ap (λ (x : Reply). Judged x) (sym is.is) in
      subst (Contains (answers config w events)) answer (Contains-from_Has (answers config w events) (answer_in config w.history reply.resolver reply.row) has),
)

pub same_replies : TheSameRepliesAreGiven
same_replies config w events others reply both told =
    (unjudged_judged config w others reply both.sound both.other_work both.other_finished).1
    ((unjudged_judged config w events reply both.sound both.work both.finished).0 told)
