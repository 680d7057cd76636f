-- What a worker keeps serving.
use Rattle.std.proofs.Common.{◌≡◌, ◌≢◌, refl, sym, ap, ◌∙◌, subst, ℕ, zero, suc, ◌+◌, ◌<◌, ◌⊎◌, inl, inr, List, [], ◌∷◌, ◌++◌, length, slice_get, Some, Bool, true, false, ◌||◌, get_or, length-append, arith}
use Rattle.std.specs.Prelude.{IsFalse, IsTrue, remove}
use Rattle.std.proofs.lemmas.Bool.{cases_eq}
use Rattle.facts.specs.Stretches.{end_of}
use Rattle.model.specs.Configs.{Config}
use Rattle.model.specs.Requests.{Request}
use Rattle.agreed_ledger.specs.Cells.{ColumnView}
use Rattle.locked_resolvers.specs.Requests.{RequestView}
use Rattle.locked_resolvers.specs.NotedReplies.{NotedReplyView}
use Rattle.locked_resolvers.specs.Resolvers.{HasOffered, HasJudged, HasRepeated, IsLockedResolver, IsNotEarly, IsOfferRefusal, LockedResolverView, after_refusal}
use Rattle.locked_resolvers.specs.declared.refusal.Refusal.{Refusal}
use Rattle.locked_resolvers.specs.declared.refusal.Refusal.TheVariants as refusals
use Rattle.workers.specs.declared.worker_answer.WorkerAnswer.{WorkerAnswer}
use Rattle.workers.specs.declared.worker_answer.WorkerAnswer.TheVariants as answers
use Rattle.workers.specs.Desks.{ClosesByCause, DeskView, HasLetGo, HasRow, IsClosing, IsNoneDue, IsSettled, KeepsServing, OnlyFails, Serves, has_failed, next_row}
use Rattle.workers.specs.Refusing.{IsAnswerOf, IsClosedWith, IsSameOrClosed, IsToldOf, IsToldRefusal, told_by}

-- ---- one after another

pub keeps_same : (v : DeskView) → KeepsServing v v
keeps_same v = record { resolver = refl; first = refl; stays_closed = λ closed. closed; stays_wanted = λ wanted. wanted; failed = λ sound. sound; served = λ sound row serves. serves }

pub keeps_trans : (a b c : DeskView) → KeepsServing a b → KeepsServing b c → KeepsServing a c
keeps_trans a b c one two =
    record {
      resolver = two.resolver ∙ one.resolver;
      first = two.first ∙ one.first;
      stays_closed = λ closed. two.stays_closed (one.stays_closed closed);
      stays_wanted = λ wanted. two.stays_wanted (one.stays_wanted wanted);
      failed = λ sound. one.failed (two.failed sound);
      served = λ sound row serves. two.served sound row (one.served (two.failed sound) row serves);
    }

same_serves : (a b : DeskView) → b.column ≡ a.column → b.held ≡ a.held → (row : ℕ) → Serves a row → Serves b row
same_serves a b column held row (inl judged) = inl (subst (λ (c : ColumnView). row < end_of c.rows) (sym column) judged)
same_serves a b column held row (inr has) = inr (subst (λ (qs : List RequestView). HasRow qs row) (sym held) has)

pub fails_keeps : (a b : DeskView) → OnlyFails a b → KeepsServing a b
fails_keeps a b only =
    record {
      resolver = ap (λ (c : ColumnView). c.resolver) only.column;
      first = ap (λ (c : ColumnView). c.rows.first) only.column;
      stays_closed = only.stays_closed;
      stays_wanted = only.stays_wanted;
      failed = only.failed;
      served = λ sound row serves. same_serves a b only.column only.held row serves;
    }

pub fails_settled : (a b : DeskView) → OnlyFails a b → IsSettled a → IsSettled b
fails_settled a b only settled sound place q at =
    subst (λ (c : ColumnView). end_of c.rows < q.plain.row) (sym only.column) (settled (only.failed sound) place q (ap (λ (qs : List RequestView). slice_get qs place) (sym only.held) ∙ at))

-- ---- a worker that is closed has failed

pub closed_fails : (v : DeskView) → v.closed ≡ true → IsFalse (has_failed v) → ⊥
closed_fails v closed sound = let fails : has_failed v ≡ true = ap (λ b. b || v.wanted) closed in cc

pub let_go_keeps : (a b : DeskView) → a.closed ≡ true → HasLetGo a b → KeepsServing a b
let_go_keeps a b closed gone =
    record {
      resolver = ap (λ (c : ColumnView). c.resolver) gone.column;
      first = ap (λ (c : ColumnView). c.rows.first) gone.column;
      stays_closed = λ was. gone.closed ∙ was;
      stays_wanted = gone.stays_wanted;
      failed = gone.failed;
      served = λ sound row serves. absurd (closed_fails b (gone.closed ∙ closed) sound);
    }

pub let_go_settled : (a b : DeskView) → a.closed ≡ true → HasLetGo a b → IsSettled b
let_go_settled a b closed gone sound place q at = absurd (closed_fails b (gone.closed ∙ closed) sound)

-- ---- no request is due

pub let_go_none_due : (a b : DeskView) (next : ℕ) → HasLetGo a b → IsNoneDue b next
let_go_none_due a b next gone place q at = let none : slice_get [] place ≡ Some q = ap (λ (qs : List RequestView). slice_get qs place) (sym gone.held) ∙ at in absurd (cc)

pub none_due_settled : (v : DeskView) (resolver : LockedResolverView) → IsNoneDue v (next_row v resolver) → IsSettled v
none_due_settled v resolver none sound place q at = let later = none place q at in omega (arith, later)

-- ---- a request less

-- each request that was held back is still, or is the one that was taken out
row_left : (held : List RequestView) (place k : ℕ) (q r : RequestView) → slice_get held place ≡ Some q → slice_get held k ≡ Some r → (q ≡ r) ⊎ HasRow (remove held place) r.plain.row
row_left [] place k q r at_q at_r = absurd (cc)
row_left (x ∷ xs) zero zero q r at_q at_r = inl (same x q r at_q at_r)
  where
    same : (a b c : RequestView) → Some a ≡ Some b → Some a ≡ Some c → b ≡ c
    same a b c one two = cc
row_left (x ∷ xs) zero (suc k) q r at_q at_r = inr (k, r, at_r, refl)
row_left (x ∷ xs) (suc i) zero q r at_q at_r = inr (0, r, at_r, refl)
row_left (x ∷ xs) (suc i) (suc k) q r at_q at_r = go (row_left xs i k q r at_q at_r)
  where
    go : (q ≡ r) ⊎ HasRow (remove xs i) r.plain.row → (q ≡ r) ⊎ HasRow (remove (x ∷ xs) (suc i)) r.plain.row
    go (inl same) = inl same
    go (inr (j, s, at, is)) = inr (suc j, s, at, is)

-- the request that was taken out is of a row that was judged since
pub taken_out : (before mid after : DeskView) (place : ℕ) (q : RequestView) → slice_get before.held place ≡ Some q → mid ≡ record before { held = remove before.held place } → KeepsServing mid after
    → (IsFalse (has_failed after) → q.plain.row < end_of after.column.rows) → KeepsServing before after
taken_out before mid after place q at is keeps judged =
    record {
      resolver = keeps.resolver ∙ ap (λ (v : DeskView). v.column.resolver) is;
      first = keeps.first ∙ ap (λ (v : DeskView). v.column.rows.first) is;
      stays_closed = λ was. keeps.stays_closed (ap (λ (v : DeskView). v.closed) is ∙ was);
      stays_wanted = λ was. keeps.stays_wanted (ap (λ (v : DeskView). v.wanted) is ∙ was);
      failed = λ sound. subst (λ (v : DeskView). IsFalse (has_failed v)) is (keeps.failed sound);
      served = λ sound row serves. by sound row serves;
    }
  where
    left : IsFalse (has_failed after) → (row : ℕ) (r : RequestView) → r.plain.row ≡ row → (q ≡ r) ⊎ HasRow (remove before.held place) r.plain.row → Serves after row
    left sound row r of (inl same) = inl (subst (λ n. n < end_of after.column.rows) (ap (λ (s : RequestView). s.plain.row) same ∙ of) (judged sound))
    left sound row r of (inr has) = keeps.served sound row (subst (λ (v : DeskView). Serves v row) (sym is) (inr (subst (HasRow (remove before.held place)) of has)))

    by : IsFalse (has_failed after) → (row : ℕ) → Serves before row → Serves after row
    by sound row (inl there) = keeps.served sound row (subst (λ (v : DeskView). Serves v row) (sym is) (inl there))
    by sound row (inr (k, r, at_r, of)) = left sound row r of (row_left before.held place k q r at at_r)

-- ---- a request more

pub one_more : (before after : DeskView) (q : RequestView) → after ≡ record before { held = before.held ++ q ∷ [] } → KeepsServing before after × HasRow after.held q.plain.row
one_more before after q is = (
  record {
    resolver = ap (λ (v : DeskView). v.column.resolver) is;
    first = ap (λ (v : DeskView). v.column.rows.first) is;
    stays_closed = λ was. ap (λ (v : DeskView). v.closed) is ∙ was;
    stays_wanted = λ was. ap (λ (v : DeskView). v.wanted) is ∙ was;
    failed = λ sound. subst (λ (v : DeskView). IsFalse (has_failed v)) is sound;
    served = λ sound row serves. subst (λ (v : DeskView). Serves v row) (sym is) (by row serves);
  },
  subst (λ (v : DeskView). HasRow v.held q.plain.row) (sym is) (length before.held, q, at_end before.held q, refl),
)
  where
    at_end : (qs : List RequestView) (r : RequestView) → slice_get (qs ++ r ∷ []) (length qs) ≡ Some r
    at_end [] r = refl
    at_end (x ∷ qs) r = at_end qs r

    earlier : (qs : List RequestView) (r s : RequestView) (k : ℕ) → slice_get qs k ≡ Some s → slice_get (qs ++ r ∷ []) k ≡ Some s
    earlier [] r s k at = absurd (cc)
    earlier (x ∷ qs) r s zero at = at
    earlier (x ∷ qs) r s (suc k) at = earlier qs r s k at

    by : (row : ℕ) → Serves before row → Serves (record before { held = before.held ++ q ∷ [] }) row
    by row (inl there) = inl there
    by row (inr (k, r, at_r, of)) = inr (k, r, earlier before.held q r k at_r, of)

-- ---- an offer

-- the row of a request that got its reply is judged
pub row_judged : (config : Config) (before after : LockedResolverView) (request : RequestView) (noted : NotedReplyView) → IsLockedResolver config before → HasOffered before request after noted → request.plain.row < length after.column
row_judged config before after request noted kept offered = by offered.done
  where
    by : HasJudged before request after noted ⊎ HasRepeated before request after noted → request.plain.row < length after.column
    by (inl judged) =
        let row = judged.row in
        let cells = kept.cells in
        let more : length after.column ≡ length before.column + 1 = ap length judged.column ∙ length-append before.column (noted.reply.verdicts ∷ []) in
        omega (arith, row, cells, more)
    by (inr repeated) =
        let row = repeated.row in
        let cells = kept.cells in
        let same : length after.column ≡ length before.column = ap (λ (v : LockedResolverView). length v.column) repeated.unchanged in
        omega (arith, row, cells, same)

-- its number stays
pub number_offered : (before after : LockedResolverView) (request : RequestView) (noted : NotedReplyView) → HasOffered before request after noted → after.memory.number ≡ before.memory.number
number_offered before after request noted offered = by offered.done
  where
    by : HasJudged before request after noted ⊎ HasRepeated before request after noted → after.memory.number ≡ before.memory.number
    by (inl judged) = judged.number
    by (inr repeated) = ap (λ (v : LockedResolverView). v.memory.number) repeated.unchanged

pub number_refused : (v : LockedResolverView) (refusal : Refusal) → (after_refusal v refusal).memory.number ≡ v.memory.number
number_refused v (refusals.Early version) = refl
number_refused v (refusals.GivenUp acknowledged) = refl
number_refused v refusals.NoSuchProxy = refl
number_refused v refusals.WrongResolver = refl
number_refused v (refusals.OutsideChain version) = refl
number_refused v refusals.NotMine = refl
number_refused v (refusals.OutOfOrder expected) = refl
number_refused v (refusals.OutOfTurn expected) = refl
number_refused v (refusals.NotReached version) = refl
number_refused v refusals.CellTaken = refl
number_refused v refusals.Closed = refl
number_refused v refusals.OutOfMemory = refl

-- ---- a resolver that is the same, or the same but closed

pub same_number : (before after : LockedResolverView) → IsSameOrClosed before after → after.memory.number ≡ before.memory.number
same_number before after (inl same) = ap (λ (v : LockedResolverView). v.memory.number) same
same_number before after (inr closed) = ap (λ (v : LockedResolverView). v.memory.number) closed

pub same_column : (before after : LockedResolverView) → IsSameOrClosed before after → after.column ≡ before.column
same_column before after (inl same) = ap (λ (v : LockedResolverView). v.column) same
same_column before after (inr closed) = ap (λ (v : LockedResolverView). v.column) closed

pub stays_closed : (before after : LockedResolverView) → IsSameOrClosed before after → IsTrue before.closed → IsTrue after.closed
stays_closed before after (inl same) was = ap (λ (v : LockedResolverView). v.closed) same ∙ was
stays_closed before after (inr closed) was = ap (λ (v : LockedResolverView). v.closed) closed

pub with_worker : (closed : Bool) (before after : LockedResolverView) → IsClosedWith closed before after → IsSameOrClosed before after
with_worker true before after is = inr is
with_worker false before after is = inl is

pub with_closed : (closed : Bool) (before after : LockedResolverView) → IsClosedWith closed before after → IsTrue closed → IsTrue after.closed
with_closed true before after is was = ap (λ (v : LockedResolverView). v.closed) is
with_closed false before after is was = absurd (cc)

-- what a worker that closes was closed by
pub closed_for : (asked : LockedResolverView) (q : Request) (refusal : Refusal) (was is : Bool) → IsOfferRefusal asked q refusal → (refusal ≡ refusals.OutOfMemory → is ≡ was)
    → ((acknowledged : ℕ) → refusal ≡ refusals.GivenUp acknowledged → is ≡ was) → IsTrue is
    → IsTrue was ⊎ ((given : Refusal) × IsClosing given × IsOfferRefusal asked q given)
closed_for asked q (refusals.Early version) was is refused memory given_up closed = inr (refusals.Early version, tt, refused)
closed_for asked q (refusals.GivenUp acknowledged) was is refused memory given_up closed = inl (sym (given_up acknowledged refl) ∙ closed)
closed_for asked q refusals.NoSuchProxy was is refused memory given_up closed = inr (refusals.NoSuchProxy, tt, refused)
closed_for asked q refusals.WrongResolver was is refused memory given_up closed = inr (refusals.WrongResolver, tt, refused)
closed_for asked q (refusals.OutsideChain version) was is refused memory given_up closed = inr (refusals.OutsideChain version, tt, refused)
closed_for asked q refusals.NotMine was is refused memory given_up closed = absurd refused
closed_for asked q (refusals.OutOfOrder expected) was is refused memory given_up closed = absurd refused
closed_for asked q (refusals.OutOfTurn expected) was is refused memory given_up closed = absurd refused
closed_for asked q (refusals.NotReached version) was is refused memory given_up closed = absurd refused
closed_for asked q refusals.CellTaken was is refused memory given_up closed = inr (refusals.CellTaken, tt, refused)
closed_for asked q refusals.Closed was is refused memory given_up closed = inr (refusals.Closed, tt, refused)
closed_for asked q refusals.OutOfMemory was is refused memory given_up closed = inl (sym (memory refl) ∙ closed)

-- a worker that closes has closed its resolver
pub closed_both : (asked left : LockedResolverView) (q : Request) (was : Bool) → IsTrue left.closed → IsTrue was ⊎ ((given : Refusal) × IsClosing given × IsOfferRefusal asked q given)
    → IsTrue was ⊎ (IsTrue left.closed × ((given : Refusal) × IsClosing given × IsOfferRefusal asked q given))
closed_both asked left q was shut (inl before) = inl before
closed_both asked left q was shut (inr cause) = inr (shut, cause)

-- of a desk that was as open before, and the same request
pub cause_moved : (a b after : DeskView) (q r : RequestView) (asked left : LockedResolverView) → a.closed ≡ b.closed → q ≡ r
    → ClosesByCause a after q.plain asked left → ClosesByCause b after r.plain asked left
cause_moved a b after q r asked left open_alike same cause closed =
    subst (λ (t : Bool). IsTrue t ⊎ (IsTrue left.closed × ((given : Refusal) × IsClosing given × IsOfferRefusal asked r.plain given))) open_alike
    (subst (λ (s : RequestView). IsTrue a.closed ⊎ (IsTrue left.closed × ((given : Refusal) × IsClosing given × IsOfferRefusal asked s.plain given))) same (cause closed))

-- a resolver that refused as closed is closed
pub refused_closed : (asked : LockedResolverView) (q : Request) (refusal : Refusal) → IsOfferRefusal asked q refusal → refusal ≡ refusals.Closed → IsTrue (after_refusal asked refusal).closed
refused_closed asked q refusal refused is =
    subst (λ (r : Refusal). IsTrue (after_refusal asked r).closed) (sym is) (subst (IsOfferRefusal asked q) is refused)

-- what an answer tells is what was told of the offer
pub told_of : {N : Type 0} (asked : LockedResolverView) (request : RequestView) (left : LockedResolverView) (answer : WorkerAnswer N) → IsAnswerOf asked request left answer → IsToldOf asked request left (told_by answer)
told_of asked request left (answers.Replied noted) is = (noted, is)
told_of asked request left (answers.Refused refused) is = (is.1, is.2)

-- a refusal is not that of an early request, or is
late_or_early : (refusal : Refusal) → IsNotEarly refusal ⊎ ((version : ℕ) × (refusal ≡ refusals.Early version))
late_or_early (refusals.Early version) = inr (version, refl)
late_or_early (refusals.GivenUp acknowledged) = inl tt
late_or_early refusals.NoSuchProxy = inl tt
late_or_early refusals.WrongResolver = inl tt
late_or_early (refusals.OutsideChain version) = inl tt
late_or_early refusals.NotMine = inl tt
late_or_early (refusals.OutOfOrder expected) = inl tt
late_or_early (refusals.OutOfTurn expected) = inl tt
late_or_early (refusals.NotReached version) = inl tt
late_or_early refusals.CellTaken = inl tt
late_or_early refusals.Closed = inl tt
late_or_early refusals.OutOfMemory = inl tt

-- what is told of a refusal of the resolver of this number
pub told_refusal : (asked : LockedResolverView) (number : ℕ) (q : Request) (given told : Refusal) → number ≡ asked.memory.number → IsOfferRefusal asked q given
    → (q.resolver ≡ number → IsNotEarly given → told ≡ given) → (q.resolver ≢ number → told ≡ refusals.Closed)
    → ((version : ℕ) → given ≡ refusals.Early version → told ≡ refusals.Closed) → IsToldRefusal asked q told
told_refusal asked number q given told of refused own other early = by (late_or_early given) (cases_eq q.resolver number)
  where
    by : IsNotEarly given ⊎ ((version : ℕ) × (given ≡ refusals.Early version)) → (q.resolver ≡ number) ⊎ (q.resolver ≡ number → ⊥) → IsToldRefusal asked q told
    by (inr (version, is)) decided = inr (early version is, inr (version, subst (IsOfferRefusal asked q) is refused))
    by (inl late) (inr apart) = inr (other apart, inl (λ same. apart (same ∙ sym of)))
    by (inl late) (inl same) = inl (same ∙ of, subst IsNotEarly (sym (own same late)) late, subst (IsOfferRefusal asked q) (sym (own same late)) refused)

-- ---- an element of a list

pub got : {X : Type 0} (xs : List X) (i : ℕ) (x : X) → i < length xs → x ≡ get_or xs i x → slice_get xs i ≡ Some x
got [] i x within is = absurd (omega (arith, within))
got (y ∷ ys) zero x within is = ap Some (sym is)
got (y ∷ ys) (suc i) x within is = got ys i x (omega (arith, within)) is
