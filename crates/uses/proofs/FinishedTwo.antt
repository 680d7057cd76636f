-- A locked proxy finishes two records, one after the other.
use Rattle.std.proofs.Common.{◌≡◌, sym, ap, ◌∙◌, subst, ℕ, ◌+◌, ◌<◌, ◌≤◌, List, ◌∷◌, slice_get, Some, arith}
use Rattle.model.specs.Configs.{Config}
use Rattle.model.specs.Records.{Record}
use Rattle.model.specs.Stamps.{AdmittedTransaction}
use Rattle.model.specs.Finishing.{ProxyView}
use Rattle.model.specs.Laws.History.{OwnVersionsAreNoLater}
use Rattle.model.proofs.Verdicts.Places.{slice_get-take_back}
use Rattle.locked_cluster.specs.Begun.{BegunView}
use Rattle.locked_cluster.specs.Ready.{ReadyView}
use Rattle.locked_cluster.specs.Answers.{NotedFinishedView}
use Rattle.locked_cluster.specs.Commits.{HoldsBatch}
use Rattle.locked_cluster.specs.Proxies.{LockedProxyView, IsLockedProxy, FinishesReady, FollowOneAnother, IsOfProxy, first_row}
use Rattle.uses.specs.Finishing.{AnswerInOrder, FinishesBoth, IsAnswerTo}

same_row : (rec row : ℕ) → Some rec ≡ Some row → rec ≡ row
same_row rec row same = cc

-- the record that is finished is the one of the replies
row_of : (before after : LockedProxyView) (ready : ReadyView) (noted : NotedFinishedView) (one : FinishesReady before ready after noted) → one.finishes.rec.row ≡ ready.row
row_of before after ready noted one = same_row one.finishes.rec.row ready.row (sym (ap first_row one.finishes.begun) ∙ one.in_turn)

answer_to : (config : Config) (before after : LockedProxyView) (ready : ReadyView) (noted : NotedFinishedView) → IsLockedProxy config before → (one : FinishesReady before ready after noted) → IsAnswerTo one.finishes.rec ready noted
answer_to config before after ready noted keeps one =
    record {
      record_row = row;
      row = one.row;
      records = one.noted_records;
      columns = one.noted_columns;
      there = subst (λ (rs : List Record). slice_get rs noted.finished.row ≡ Some rec) one.shown.records (slice_get-take_back after.records (noted.finished.row + 1) noted.finished.row rec (omega arith) among);
    }
  where
    rec : Record
    rec = one.finishes.rec

    row : rec.row ≡ ready.row
    row = row_of before after ready noted one

    begun : slice_get before.records rec.row ≡ Some rec
    begun = keeps.begun 0 rec (ap (λ (rs : List Record). slice_get rs 0) one.finishes.begun)

    among : slice_get after.records noted.finished.row ≡ Some rec
    among = (λ i. slice_get (one.records i) ((one.row ∙ sym row) i)) ∙ begun

pub finishes_both : (config : Config) (before between after : LockedProxyView) (first second : ReadyView) (answer next_answer : NotedFinishedView)
    → OwnVersionsAreNoLater → IsLockedProxy config before → IsLockedProxy config between → FinishesReady before first between answer → FinishesReady between second after next_answer → FinishesBoth before first second after answer next_answer
finishes_both config before between after first second answer next_answer own_law kept keeps one two =
    record {
      rec = one.finishes.rec;
      next = next;
      rest = two.finishes.rest;
      begun = one.finishes.begun ∙ ap (λ (rs : List Record). one.finishes.rec ∷ rs) (sym (ap (λ (v : ProxyView). v.begun) one.finishes.after) ∙ two.finishes.begun);
      left = ap (λ (v : ProxyView). v.begun) two.finishes.after;
      answer_to = answer_to config before between first answer kept one;
      next_answer_to = answer_to config between after second next_answer keeps two;
      increase = increase;
      own = subst (λ (p : ℕ). IsOfProxy p answer.finished.row answer.records) (sym (ap (λ (v : ProxyView). v.number) two.finishes.after)) one.shown.own;
      next_own = two.shown.own;
      version = two.shown.version;
      records = two.records ∙ one.records;
      columns = two.columns;
    }
  where
    next : Record
    next = two.finishes.rec

    there : slice_get between.records next.row ≡ Some next
    there = keeps.begun 0 next (ap (λ (rs : List Record). slice_get rs 0) two.finishes.begun)

    increase : answer.finished.version < next_answer.finished.version
    increase =
        let follows = keeps.agreed.history next.row next there in
        let version : next.version ≡ next.previous + config.step = follows.version in
        let below : next.own_previous ≤ next.previous = own_law config between.records next.row next keeps.agreed.history there in
        let at : next.own_previous ≡ between.proxy.version = (subst (FollowOneAnother between.proxy.version between.proxy.last_begun) two.finishes.begun keeps.follow).0 in
        let come : after.proxy.version ≡ next.version = ap (λ (v : ProxyView). v.version) two.finishes.after in
        let told : after.proxy.version ≡ next_answer.finished.version = two.shown.version in
        let before_it : between.proxy.version ≡ answer.finished.version = one.shown.version in
        let stepping : 1 ≤ config.step = keeps.config_is.step.0 in
        omega (arith, version, below, at, come, told, before_it, stepping)

-- ---- batches

-- the record of the same row among the same records
pub holds_still : (p row at : ℕ) (records known : List Record) (batch : List AdmittedTransaction) → at ≡ row → known ≡ records → HoldsBatch p row records batch → HoldsBatch p at known batch
holds_still p row at records known batch same are holds =
    record {
      rec = holds.rec;
      there = (λ i. slice_get (are i) (same i)) ∙ holds.there;
      own = holds.own;
      batch_is = holds.batch_is;
    }

pub in_order : (p : ℕ) (before after : LockedProxyView) (batch next_batch : List AdmittedTransaction) (begun next_begun : BegunView) (first second : ReadyView) (answer next_answer : NotedFinishedView)
    → HoldsBatch p begun.row begun.records batch → HoldsBatch p next_begun.row next_begun.records next_batch
    → first.row ≡ begun.row → first.records ≡ begun.records → second.row ≡ next_begun.row → second.records ≡ next_begun.records
    → FinishesBoth before first second after answer next_answer → AnswerInOrder p batch next_batch answer next_answer
in_order p before after batch next_batch begun next_begun first second answer next_answer holds next_holds row records next_row next_records both =
    record {
      increase = both.increase;
      holds = holds_still p begun.row answer.finished.row begun.records answer.records batch (both.answer_to.row ∙ row) (both.answer_to.records ∙ records) holds;
      next_holds = holds_still p next_begun.row next_answer.finished.row next_begun.records next_answer.records next_batch (both.next_answer_to.row ∙ next_row) (both.next_answer_to.records ∙ next_records) next_holds;
    }
