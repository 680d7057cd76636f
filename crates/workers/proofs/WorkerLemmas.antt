-- What a worker serves of the messages that it took.
use Rattle.std.proofs.Common.{◌≡◌, ◌≢◌, refl, sym, ap, ◌∙◌, subst, ℕ, zero, suc, ◌+◌, ◌<◌, ◌≤◌, ◌⊎◌, inl, inr, List, [], ◌∷◌, ◌++◌, length, slice_get, Some, true, true≢false, append-nil, append_assoc, ◌||◌, arith}
use Rattle.std.specs.Prelude.{IsFalse, IsTrue}
use Rattle.std.proofs.lemmas.Bool.{cases_eq}
use Rattle.facts.specs.Stretches.{end_of}
use Rattle.model.proofs.History.Growth.{push_cases}
use Rattle.agreed_ledger.specs.Cells.{ColumnView}
use Rattle.inboxes.specs.Ends.{WorkerPassView}
use Rattle.inboxes.specs.declared.views.MessageView.{MessageView}
use Rattle.inboxes.specs.declared.views.MessageKind.TheVariants as kinds
use Rattle.inboxes.specs.Sending.{ends_in}
use Rattle.workers.specs.Desks.{DeskView, IsEmptyIfClosed, IsSettled, KeepsServing, Serves, has_failed, new_desk}
use Rattle.workers.specs.Workers.{EndedView, HasCause, HasClose, HasRequest, HasTakenMore, IsAsked, IsEnded, IsRequestOf, IsWorkerOf, ServesAsked, StaysFailed, TakesOne, WorkerView}
use Rattle.workers.proofs.DeskLemmas.{closed_fails}

-- ---- before any message

none_asked : (r row : ℕ) → IsAsked r [] row → ⊥
none_asked r row (place, message, at, is) = absurd (cc)

none_closes : HasClose [] → ⊥
none_closes (place, message, at, is) = absurd (cc)

pub starts : (r proxies : ℕ) (v : WorkerView) → v.taken ≡ record { resolver = r; got = [] } → v.desk ≡ new_desk r → v.proxies_left ≡ proxies → IsWorkerOf r proxies v
starts r proxies v taken desk left =
    record {
      taken = ap (λ (t : WorkerPassView). t.resolver) taken;
      resolver = ap (λ (d : DeskView). d.column.resolver) desk;
      first = ap (λ (d : DeskView). d.column.rows.first) desk;
      served = λ sound row asked. absurd (none_asked r row (subst (λ (t : WorkerPassView). IsAsked r t.got row) taken asked));
      settled = subst IsSettled (sym desk) (λ sound place q at. absurd (cc));
      closed = λ closes. absurd (none_closes (subst (λ (t : WorkerPassView). HasClose t.got) taken closes));
      emptied = λ closed. ap (λ (d : DeskView). d.held) desk;
      cause =
          record {
            held = inl (ap (λ (d : DeskView). d.held) desk);
            wanted = λ wanted. absurd (true≢false (sym wanted ∙ ap (λ (d : DeskView). d.wanted) desk));
            closed = λ closed. absurd (true≢false (sym closed ∙ ap (λ (d : DeskView). d.closed) desk));
          };
      ends = let none : ends_in v.taken.got ≡ 0 = ap (λ (t : WorkerPassView). ends_in t.got) taken in omega (arith, left, none);
    }

-- ---- a message more

asked_before : (r row : ℕ) (messages : List MessageView) (message : MessageView) → IsAsked r (messages ++ message ∷ []) row → IsRequestOf r row message ⊎ IsAsked r messages row
asked_before r row messages message (place, found, at, is) = by (push_cases messages message place found at)
  where
    by : ((place ≡ length messages) × (message ≡ found)) ⊎ ((place < length messages) × (slice_get messages place ≡ Some found)) → IsRequestOf r row message ⊎ IsAsked r messages row
    by (inl last) = inl (subst (IsRequestOf r row) (sym last.1) is)
    by (inr sooner) = inr (place, found, sooner.1, is)

closes_before : (messages : List MessageView) (message : MessageView) → HasClose (messages ++ message ∷ []) → (message.kind ≡ kinds.Close) ⊎ HasClose messages
closes_before messages message (place, found, at, is) = by (push_cases messages message place found at)
  where
    by : ((place ≡ length messages) × (message ≡ found)) ⊎ ((place < length messages) × (slice_get messages place ≡ Some found)) → (message.kind ≡ kinds.Close) ⊎ HasClose messages
    by (inl last) = inl (ap (λ (t : MessageView). t.kind) last.1 ∙ is)
    by (inr sooner) = inr (place, found, sooner.1, is)

-- what was taken before was taken
still_there : {X : Type 0} (xs : List X) (y x : X) (k : ℕ) → slice_get xs k ≡ Some x → slice_get (xs ++ y ∷ []) k ≡ Some x
still_there [] y x k at = absurd (cc)
still_there (z ∷ xs) y x zero at = at
still_there (z ∷ xs) y x (suc k) at = still_there xs y x k at

last_there : {X : Type 0} (xs : List X) (y : X) → slice_get (xs ++ y ∷ []) (length xs) ≡ Some y
last_there [] y = refl
last_there (z ∷ xs) y = last_there xs y

request_still : (r : ℕ) (messages : List MessageView) (message : MessageView) → HasRequest r messages → HasRequest r (messages ++ message ∷ [])
request_still r messages message (row, (place, found, at, is)) = (row, (place, found, still_there messages message found place at, is))

close_still : (messages : List MessageView) (message : MessageView) → HasClose messages → HasClose (messages ++ message ∷ [])
close_still messages message (place, found, at, is) = (place, found, still_there messages message found place at, is)

-- a message more that changes nothing else
pub cause_same : (r : ℕ) (messages : List MessageView) (message : MessageView) (before after : DeskView) → HasCause r messages before → after ≡ before → HasCause r (messages ++ message ∷ []) after
cause_same r messages message before after cause same =
    subst (HasCause r (messages ++ message ∷ [])) (sym same)
    (record {
      held = held cause.held;
      wanted = λ wanted. request_still r messages message (cause.wanted wanted);
      closed = λ closed. either (cause.closed closed);
    })
  where
    held : (before.held ≡ []) ⊎ HasRequest r messages → (before.held ≡ []) ⊎ HasRequest r (messages ++ message ∷ [])
    held (inl none) = inl none
    held (inr has) = inr (request_still r messages message has)

    either : HasClose messages ⊎ HasRequest r messages → HasClose (messages ++ message ∷ []) ⊎ HasRequest r (messages ++ message ∷ [])
    either (inl closes) = inl (close_still messages message closes)
    either (inr has) = inr (request_still r messages message has)

-- a request more, which changes nothing if it is to another resolver
pub cause_request : (r to row : ℕ) (messages : List MessageView) (message : MessageView) (before after : DeskView) → HasCause r messages before → message.kind ≡ kinds.Request → message.to ≡ to → message.row ≡ row
    → before.column.resolver ≡ r → (to ≢ before.column.resolver → after ≡ before) → HasCause r (messages ++ message ∷ []) after
cause_request r to row messages message before after cause kind names of own other = by (cases_eq to before.column.resolver)
  where
    by : (to ≡ before.column.resolver) ⊎ (to ≡ before.column.resolver → ⊥) → HasCause r (messages ++ message ∷ []) after
    by (inr apart) = cause_same r messages message before after cause (other apart)
    by (inl same) =
        let has : HasRequest r (messages ++ message ∷ []) = (row, (length messages, message, last_there messages message, record { kind = kind; to = names ∙ same ∙ own; row_is = of })) in
        record { held = inr has; wanted = λ wanted. has; closed = λ closed. inr has }

-- a Close more
pub cause_close : (r : ℕ) (messages : List MessageView) (message : MessageView) (before after : DeskView) → HasCause r messages before → message.kind ≡ kinds.Close → after.held ≡ []
    → (before.held ≡ [] → after.wanted ≡ before.wanted) → HasCause r (messages ++ message ∷ []) after
cause_close r messages message before after cause kind none wanted =
    record { held = inl none; wanted = λ wants. by cause.held wants; closed = λ closed. inl (length messages, message, last_there messages message, kind) }
  where
    by : (before.held ≡ []) ⊎ HasRequest r messages → IsTrue after.wanted → HasRequest r (messages ++ message ∷ [])
    by (inl empty) wants = request_still r messages message (cause.wanted (sym (wanted empty) ∙ wants))
    by (inr has) wants = request_still r messages message has

pub worker_next : (r proxies : ℕ) (before after : WorkerView) (message : MessageView) → IsWorkerOf r proxies before → after.taken ≡ record before.taken { got = before.taken.got ++ message ∷ [] }
    → KeepsServing before.desk after.desk → IsSettled after.desk → IsEmptyIfClosed after.desk
    → ((row : ℕ) → IsRequestOf r row message → IsFalse (has_failed after.desk) → Serves after.desk row)
    → (message.kind ≡ kinds.Close → IsTrue after.desk.closed)
    → (after.proxies_left + ends_in (before.taken.got ++ message ∷ []) ≡ before.proxies_left + ends_in before.taken.got)
    → HasCause r (before.taken.got ++ message ∷ []) after.desk → IsWorkerOf r proxies after
worker_next r proxies before after message is taken keeps settled emptied served closed left cause =
    record {
      taken = ap (λ (t : WorkerPassView). t.resolver) taken ∙ is.taken;
      resolver = keeps.resolver ∙ is.resolver;
      first = keeps.first ∙ is.first;
      served = λ sound row asked. by sound row (asked_before r row before.taken.got message (subst (λ (t : WorkerPassView). IsAsked r t.got row) taken asked));
      settled = settled;
      closed = λ closes. close_by (closes_before before.taken.got message (subst (λ (t : WorkerPassView). HasClose t.got) taken closes));
      emptied = emptied;
      cause = subst (λ (t : WorkerPassView). HasCause r t.got after.desk) (sym taken) cause;
      ends = ap (λ (t : WorkerPassView). after.proxies_left + ends_in t.got) taken ∙ left ∙ is.ends;
    }
  where
    close_by : (message.kind ≡ kinds.Close) ⊎ HasClose before.taken.got → IsTrue after.desk.closed
    close_by (inl now) = closed now
    close_by (inr earlier) = keeps.stays_closed (is.closed earlier)

    by : IsFalse (has_failed after.desk) → (row : ℕ) → IsRequestOf r row message ⊎ IsAsked r before.taken.got row → Serves after.desk row
    by sound row (inl now) = served row now sound
    by sound row (inr earlier) = keeps.served sound row (is.served (keeps.failed sound) row earlier)

-- no message more
pub worker_same : (r proxies : ℕ) (before after : WorkerView) → IsWorkerOf r proxies before → after.taken ≡ before.taken → after.desk ≡ before.desk
    → after.proxies_left ≡ before.proxies_left → IsWorkerOf r proxies after
worker_same r proxies before after is taken desk left =
    record {
      taken = ap (λ (t : WorkerPassView). t.resolver) taken ∙ is.taken;
      resolver = ap (λ (d : DeskView). d.column.resolver) desk ∙ is.resolver;
      first = ap (λ (d : DeskView). d.column.rows.first) desk ∙ is.first;
      served = subst (λ (d : DeskView). ServesAsked r after.taken.got d) (sym desk) (subst (λ (t : WorkerPassView). ServesAsked r t.got before.desk) (sym taken) is.served);
      settled = subst IsSettled (sym desk) is.settled;
      closed = λ closes. ap (λ (d : DeskView). d.closed) desk ∙ is.closed (subst (λ (t : WorkerPassView). HasClose t.got) taken closes);
      emptied = subst IsEmptyIfClosed (sym desk) is.emptied;
      cause = subst (λ (d : DeskView). HasCause r after.taken.got d) (sym desk) (subst (λ (t : WorkerPassView). HasCause r t.got before.desk) (sym taken) is.cause);
      ends = let same = ap (λ (t : WorkerPassView). ends_in t.got) taken in let all = is.ends in omega (arith, left, same, all);
    }

-- what was taken before, and one message more or none
pub taken_same : (t : WorkerPassView) → HasTakenMore t t
taken_same t = record { resolver = refl; more = []; got = sym (append-nil t.got) }

pub taken_next : (first : WorkerPassView) (before after : WorkerView) → HasTakenMore first before.taken → TakesOne before after → HasTakenMore first after.taken
taken_next first before after more (inl (message, one, same)) =
    record {
      resolver = ap (λ (t : WorkerPassView). t.resolver) one ∙ more.resolver;
      more = more.more ++ message ∷ [];
      got = ap (λ (t : WorkerPassView). t.got) one ∙ ap (λ (l : List MessageView). l ++ message ∷ []) more.got ∙ append_assoc first.got more.more (message ∷ []);
    }
taken_next first before after more (inr (none, cut)) = subst (λ (t : WorkerPassView). HasTakenMore first t) (sym none) more

-- once nobody is left who could send one, an End is missing, if one was before
pub missing_next : (proxies : ℕ) (before after : WorkerView) → TakesOne before after → (0 < before.proxies_left) × IsFalse before.cut_off
    → before.proxies_left + ends_in before.taken.got ≡ proxies → IsTrue after.cut_off → ends_in after.taken.got < proxies
missing_next proxies before after (inl (message, one, same)) went left cut = absurd (true≢false (sym cut ∙ same ∙ went.1))
missing_next proxies before after (inr (none, now)) went left cut =
    let same = ap (λ (t : WorkerPassView). ends_in t.got) none in let some = went.0 in omega (arith, left, same, some)

-- a worker that has failed stays so
pub stays_same : (v : WorkerView) → StaysFailed v v
stays_same v = record { closed = λ closed. closed; wanted = λ wanted. wanted; cut_off = λ cut_off. cut_off }

pub stays_trans : (a b c : WorkerView) → StaysFailed a b → StaysFailed b c → StaysFailed a c
stays_trans a b c one two =
    record {
      closed = λ closed. two.closed (one.closed closed);
      wanted = λ wanted. two.wanted (one.wanted wanted);
      cut_off = λ cut_off. two.cut_off (one.cut_off cut_off);
    }

-- a desk that was closed
pub closed_keeps : (a b : DeskView) → b.column ≡ a.column → b.closed ≡ true → (IsTrue a.wanted → IsTrue b.wanted) → KeepsServing a b
closed_keeps a b column closed wanted =
    record {
      resolver = ap (λ (c : ColumnView). c.resolver) column;
      first = ap (λ (c : ColumnView). c.rows.first) column;
      stays_closed = λ was. closed;
      stays_wanted = wanted;
      failed = λ sound. absurd (closed_fails b closed sound);
      served = λ sound row serves. absurd (closed_fails b closed sound);
    }

pub closed_settled : (b : DeskView) → b.closed ≡ true → IsSettled b
closed_settled b closed sound place q at = absurd (closed_fails b closed sound)

-- ---- at the end

order : (a b : ℕ) → (a < b) ⊎ (b ≤ a)
order a zero = inr (omega arith)
order zero (suc b) = inl (omega arith)
order (suc a) (suc b) = go (order a b)
  where
    go : (a < b) ⊎ (b ≤ a) → (suc a < suc b) ⊎ (suc b ≤ suc a)
    go (inl below) = inl (omega (arith, below))
    go (inr above) = inr (omega (arith, above))

-- a row after all that were judged was not asked with all rows before it
not_all : (r proxies : ℕ) (v : WorkerView) → IsWorkerOf r proxies v → IsFalse (has_failed v.desk) → (row : ℕ) → end_of v.desk.column.rows ≤ row
    → ((asked : ℕ) → asked ≤ row → IsAsked r v.taken.got asked) → ⊥
not_all r proxies v is sound row above all = by (is.served sound next (all next above))
  where
    next : ℕ
    next = end_of v.desk.column.rows

    by : Serves v.desk next → ⊥
    by (inl below) = omega (arith, below)
    by (inr (place, q, at, of)) = let late = is.settled sound place q at in omega (arith, late, of)

pub worker_ended : (r proxies : ℕ) (v : WorkerView) (ended : EndedView) → IsWorkerOf r proxies v → ended.taken ≡ v.taken → ended.column ≡ v.desk.column
    → (IsFalse (ended.closed || ended.wanted) → IsFalse (has_failed v.desk)) → (v.desk.held ≡ [] → ended.wanted ≡ v.desk.wanted) → ended.closed ≡ v.desk.closed → ended.cut_off ≡ v.cut_off
    → (v.proxies_left ≡ 0) ⊎ IsTrue v.cut_off → IsEnded proxies ended
worker_ended r proxies v ended is taken column failed wanted closed cut why =
    record {
      resolver = ap (λ (c : ColumnView). c.resolver) column ∙ is.resolver ∙ sym is.taken ∙ sym (ap (λ (t : WorkerPassView). t.resolver) taken);
      first = ap (λ (c : ColumnView). c.rows.first) column ∙ is.first;
      served = λ sound row all. by sound row (λ asked within. own asked (all asked within)) (order row (end_of v.desk.column.rows));
      closed_by = λ was.
          subst (λ (t : WorkerPassView). HasClose t.got ⊎ HasRequest t.resolver t.got) (sym taken)
          (subst (λ (n : ℕ). HasClose v.taken.got ⊎ HasRequest n v.taken.got) (sym is.taken) (is.cause.closed (sym closed ∙ was)));
      wanted_by = λ was.
          subst (λ (t : WorkerPassView). HasRequest t.resolver t.got) (sym taken)
          (subst (λ (n : ℕ). HasRequest n v.taken.got) (sym is.taken) (asked is.cause.held was));
      told = λ closes. closed ∙ is.closed (subst (λ (t : WorkerPassView). HasClose t.got) taken closes);
      ends = λ whole. all_ended (sym cut ∙ whole) why;
    }
  where
    asked : (v.desk.held ≡ []) ⊎ HasRequest r v.taken.got → IsTrue ended.wanted → HasRequest r v.taken.got
    asked (inl none) was = is.cause.wanted (sym (wanted none) ∙ was)
    asked (inr has) was = has

    all_ended : IsFalse v.cut_off → (v.proxies_left ≡ 0) ⊎ IsTrue v.cut_off → ends_in ended.taken.got ≡ proxies
    all_ended whole (inl none) = let same = ap (λ (t : WorkerPassView). ends_in t.got) taken in let all = is.ends in omega (arith, none, same, all)
    all_ended whole (inr cut_off) = absurd (true≢false (sym cut_off ∙ whole))

    own : (asked : ℕ) → IsAsked ended.taken.resolver ended.taken.got asked → IsAsked r v.taken.got asked
    own asked found = subst (λ (n : ℕ). IsAsked n v.taken.got asked) is.taken (subst (λ (t : WorkerPassView). IsAsked t.resolver t.got asked) taken found)

    by : IsFalse (ended.closed || ended.wanted) → (row : ℕ) → ((asked : ℕ) → asked ≤ row → IsAsked r v.taken.got asked) → (row < end_of v.desk.column.rows) ⊎ (end_of v.desk.column.rows ≤ row) → row < end_of ended.column.rows
    by sound row all (inl below) = subst (λ (c : ColumnView). row < end_of c.rows) (sym column) below
    by sound row all (inr above) = absurd (not_all r proxies v is (failed sound) row above all)
