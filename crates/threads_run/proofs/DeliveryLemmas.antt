-- What was sent through an end and what a worker took, from what is counted of them.
use Rattle.std.proofs.Common.{◌≡◌, ◌∙◌, ◌++◌, ◌+◌, ◌-◌, ◌^◌, ◌<◌, ◌≤◌, ℕ, Bool, true, cond, List, [], ◌∷◌, sym, refl, ap, subst, length, length-append, append-nil, get_or, inl, inr, arith}
use Rattle.std.specs.Prelude.{◌⊎◌, ◌==◌, ⊤, All, false, filter, slice_get, slice_set, Some, Result, Ok, Err, IfErr, OnOk}
use Rattle.std.proofs.Math.Nat.{min-eq_left, min-eq_right}
use Rattle.std.proofs.lemmas.List.{nil_from_length, set-get_or}
use Rattle.std.proofs.lemmas.Bool.{cases_order}
use Rattle.std.proofs.lemmas.List.Elements.{All-cons, All-filter, All-head, All-nil, All-same, All-tail}
use Rattle.std.proofs.lemmas.Option.{same_Some, slice_get_within, slice_get-get_or}
use Rattle.model.specs.Configs.{Config}
use Rattle.model.specs.Records.{Record, records_of_proxy}
use Rattle.locked_resolvers.proofs.Lists.{got}
use Rattle.inboxes.specs.declared.views.MessageKind.{MessageKind}
use Rattle.inboxes.specs.declared.views.MessageKind.TheVariants as kinds
use Rattle.inboxes.specs.declared.views.MessageView.{MessageView}
use Rattle.inboxes.specs.Counts.{counted}
use Rattle.inboxes.specs.Delivers.{of_proxy}
use Rattle.inboxes.specs.Ends.{AreSenders, IsBeginning, ProxyView, SenderView}
use Rattle.inboxes.specs.MessageViews.{end_view}
use Rattle.inboxes.specs.Sending.{AreEndedSenders, HasEndLast, IsEndedSender, ends_in, is_end, is_last_kind}
use Rattle.workers.specs.Workers.{EndedView, IsEnded}
use Rattle.threads_lines.specs.Faults.{FailsCheckOf}
use Rattle.threads_lines.specs.declared.faults.RunFault.{RunFault}
use Rattle.threads_run.specs.Delivered.{AreRequestsAndEnd, IsDelivered, IsRequest, IsSideDelivered, IsTaken, messages_of}

-- a count below the greatest number is how many messages there are
counts_all : (messages : List MessageView) (count : ℕ) → count < 2 ^ 64 - 1 → count ≡ counted messages → length messages ≡ count
counts_all messages count below is = by (cases_order (2 ^ 64 - 1) (length messages))
  where
    most : 2 ^ 64 - 1 ≤ length messages → length messages ≡ count
    most great =
        let all : count ≡ 2 ^ 64 - 1 = is ∙ min-eq_right great in
        absurd (omega (arith, below, all))

    by : (2 ^ 64 - 1 ≡ length messages) ⊎ ((2 ^ 64 - 1 < length messages) ⊎ (length messages < 2 ^ 64 - 1)) → length messages ≡ count
    by (inl same) = most (omega (arith, same))
    by (inr (inl great)) = most (omega (arith, great))
    by (inr (inr small)) = let within : length messages ≤ 2 ^ 64 - 1 = omega (arith, small) in sym (min-eq_left within) ∙ sym is

-- fewer messages than the greatest number are counted as they are
pub counted_all : (messages : List MessageView) (count : ℕ) → count < 2 ^ 64 - 1 → length messages ≡ count → counted messages ≡ count
counted_all messages count below is =
    let small : length messages ≤ 2 ^ 64 - 1 = omega (arith, below, is) in
    min-eq_left small ∙ is

-- ---- an open worker took no Close

-- the message is no Close
abbrev IsNoClose : MessageView → Type 0
IsNoClose message = message.kind ≡ kinds.Close → ⊥

-- what is neither an End nor a Close is a request
request_if : (message : MessageView) → is_end message ≡ false → IsNoClose message → IsRequest message
request_if message none other = by message.kind refl
  where
    by : (kind : MessageKind) → message.kind ≡ kind → message.kind ≡ kinds.Request
    by kinds.Request is = is
    by kinds.Close is = absurd (other is)
    by kinds.End is = let last : true ≡ false = sym (ap (λ (k : MessageKind). is_last_kind k) is) ∙ none in absurd (cc)

-- as many Ends as there are, by the first message
ends_by_first : (message : MessageView) (messages : List MessageView) (b : Bool) → is_end message ≡ b
    → ends_in (message ∷ messages) ≡ length (cond b (message ∷ filter is_end messages) (filter is_end messages))
ends_by_first message messages b is =
    ap (λ (x : Bool). length (cond x (message ∷ filter is_end messages) (filter is_end messages))) is

-- the first is no End where none is
first_no_end : (message : MessageView) (messages : List MessageView) → ends_in (message ∷ messages) ≡ 0 → is_end message ≡ false
first_no_end message messages none = by (is_end message) refl
  where
    by : (b : Bool) → is_end message ≡ b → is_end message ≡ false
    by true is =
        let count : ends_in (message ∷ messages) ≡ length (message ∷ filter is_end messages) = ends_by_first message messages true is in
        absurd (omega (arith, none, count))
    by false is = is

-- where none is an End and none a Close, all are requests
all_requests : (messages : List MessageView) → ends_in messages ≡ 0 → All IsNoClose messages → All IsRequest messages
all_requests [] none all = All-nil IsRequest
all_requests (message ∷ messages) none all =
    let first = first_no_end message messages none in
    let rest : ends_in messages ≡ 0 = sym (ends_by_first message messages false first) ∙ none in
    All-cons IsRequest message messages (request_if message first (All-head IsNoClose message messages all))
    (all_requests messages rest (All-tail IsNoClose message messages all))

-- what holds of each holds of the first ones
first_ones : {X : Type 0} (P : X → Type 0) (xs ys : List X) → All P (xs ++ ys) → All P xs
first_ones P [] ys all = All-nil P
first_ones P (x ∷ xs) ys all = All-cons P x xs (All-head P x (xs ++ ys) all) (first_ones P xs ys (All-tail P x (xs ++ ys) all))

-- by its type a worker that took a Close was closed
no_close_taken : (proxies : ℕ) (worker : EndedView) → IsEnded proxies worker → worker.closed ≡ false → All IsNoClose worker.taken.got
no_close_taken proxies worker is not_closed k d within closes =
    let message = get_or worker.taken.got k d in
    let closed : worker.closed ≡ true = is.told (k, message, slice_get-get_or worker.taken.got k d within, closes) in
    absurd (cc)

-- so what it took of a proxy are requests, and the End
requests_and_end : (proxies : ℕ) (worker : EndedView) (sender : SenderView) → IsEnded proxies worker → worker.closed ≡ false
    → of_proxy sender.proxy worker.taken.got ≡ sender.put → HasEndLast sender.proxy sender.put → AreRequestsAndEnd sender.proxy sender.put
requests_and_end proxies worker sender is not_closed taken (before, none, whole) =
    let got = worker.taken.got in
    let last = end_view sender.proxy ∷ [] in
    let own : All IsNoClose (of_proxy sender.proxy got) =
    All-filter (λ (m : MessageView). m.proxy == sender.proxy) IsNoClose got (no_close_taken proxies worker is not_closed) in
    let put : All IsNoClose (before ++ last) = All-same IsNoClose (before ++ last) (of_proxy sender.proxy got) (sym whole ∙ sym taken) own in
    (before, all_requests before none (first_ones IsNoClose before last put), whole)

-- as many were taken as were sent, so all
pub taken_all : (messages proxies : ℕ) (worker : EndedView) (sender : SenderView) (sent taken : ℕ)
    → messages < 2 ^ 64 - 1 → HasEndLast sender.proxy sender.put
    → IsEnded proxies worker → worker.closed ≡ false
    → sender.resolver ≡ worker.taken.resolver → IsBeginning worker.taken sender
    → sent ≡ counted sender.put → taken ≡ counted (of_proxy sender.proxy worker.taken.got)
    → sent ≡ messages → taken ≡ messages → IsTaken messages worker sender
taken_all messages proxies worker sender sent taken below last is not_closed same (rest, begins) is_sent is_taken all_sent all_taken =
    let got = of_proxy sender.proxy worker.taken.got in
    let put_size : length sender.put ≡ messages = counts_all sender.put messages below (sym all_sent ∙ is_sent) in
    let got_size : length got ≡ messages = counts_all got messages below (sym all_taken ∙ is_taken) in
    let both : length sender.put ≡ length got + length rest = ap (λ (ts : List MessageView). length ts) begins ∙ length-append got rest in
    let none : rest ≡ [] = nil_from_length rest (omega (arith, put_size, got_size, both)) in
    let all : got ≡ sender.put = sym (append-nil got) ∙ ap (λ (ts : List MessageView). got ++ ts) (sym none) ∙ sym begins in
    record {
      not_closed = not_closed;
      resolver = same;
      taken = all;
      requests = requests_and_end proxies worker sender is not_closed all last;
      count = put_size;
    }

-- another count was sent than all
pub other_sent : (messages : ℕ) (worker : EndedView) (sender : SenderView) (sent : ℕ) → messages < 2 ^ 64 - 1
    → sent ≡ counted sender.put → (sent ≡ messages → ⊥) → IsTaken messages worker sender → ⊥
other_sent messages worker sender sent below is_sent other all = other (is_sent ∙ counted_all sender.put messages below all.count)

-- another count was taken than all
pub other_taken : (messages : ℕ) (worker : EndedView) (sender : SenderView) (taken : ℕ) → messages < 2 ^ 64 - 1
    → taken ≡ counted (of_proxy sender.proxy worker.taken.got) → (taken ≡ messages → ⊥) → IsTaken messages worker sender → ⊥
other_taken messages worker sender taken below is_taken other all =
    other (is_taken ∙ ap counted all.taken ∙ counted_all sender.put messages below all.count)

-- the last message was the End, since none was refused
pub end_last : (sender : SenderView) → IsEndedSender sender.proxy sender → sender.gone ≡ false → HasEndLast sender.proxy sender.put
end_last sender (inl last) accepted = last
end_last sender (inr (none, gone)) accepted = absurd (cc)

-- a worker that stays as it is leaves all as they are
pub same_workers : (workers : List EndedView) (k : ℕ) (worker after : EndedView) → worker ≡ get_or workers k worker → after ≡ worker → slice_set workers k after ≡ workers
same_workers workers k worker after at same =
    ap (λ (w : EndedView). slice_set workers k w) (same ∙ at) ∙ set-get_or workers k worker

-- the worker at this place is that of the resolver
pub worker_of : (workers : List EndedView) (k resolver : ℕ) (worker : EndedView) → k ≡ resolver → k < length workers → worker ≡ get_or workers k worker
    → slice_get workers resolver ≡ Some worker
worker_of workers k resolver worker same within at = ap (slice_get workers) (sym same) ∙ got workers k worker within at

-- delivered to no other worker than that of its resolver
pub taken_of : (messages : ℕ) (workers : List EndedView) (sender : SenderView) (worker : EndedView) → slice_get workers sender.resolver ≡ Some worker
    → IsDelivered messages workers sender → IsTaken messages worker sender
taken_of messages workers sender worker at all =
    let same : all.worker ≡ worker = same_Some all.worker worker (sym all.there ∙ at) in
    subst (λ (w : EndedView). IsTaken messages w sender) same all.taken

-- there is no worker of its resolver
pub no_worker : (messages : ℕ) (workers : List EndedView) (sender : SenderView) → length workers ≤ sender.resolver → IsDelivered messages workers sender → ⊥
no_worker messages workers sender past all = omega (arith, slice_get_within workers sender.resolver all.worker all.there, past)

-- each end of an ended side is ended
pub all_ended : (proxy count : ℕ) (senders : List SenderView) → AreSenders proxy count senders → AreEndedSenders proxy senders
    → All (λ (sender : SenderView). IsEndedSender sender.proxy sender) senders
all_ended proxy count senders are ended k d within =
    let sender = get_or senders k d in
    let at : slice_get senders k ≡ Some sender = slice_get-get_or senders k d within in
    subst (λ (p : ℕ). IsEndedSender p sender) (sym (are.1 k sender at).1) (ended k sender at)

-- ---- what a check found

-- the worker of the resolver took all, so all was delivered
pub delivered_so : (result : Result ⊤ RunFault) (messages : ℕ) (workers : List EndedView) (sender : SenderView) (worker : EndedView)
    → slice_get workers sender.resolver ≡ Some worker → sender.gone ≡ false
    → OnOk result (IsTaken messages worker sender) → OnOk result (IsDelivered messages workers sender)
delivered_so (Ok done) messages workers sender worker at accepted taken = record { accepted = accepted; worker = worker; there = at; taken = taken }
delivered_so (Err fault) messages workers sender worker at accepted none = none

-- it did not, so not all was delivered
pub not_delivered_so : (result : Result ⊤ RunFault) (messages : ℕ) (workers : List EndedView) (sender : SenderView) (worker : EndedView)
    → slice_get workers sender.resolver ≡ Some worker
    → IfErr result (FailsCheckOf (IsTaken messages worker sender)) → IfErr result (FailsCheckOf (IsDelivered messages workers sender))
not_delivered_so (Ok done) messages workers sender worker at none = none
not_delivered_so (Err fault) messages workers sender worker at failed = (failed.0, λ all. failed.1 (taken_of messages workers sender worker at all))

-- what was delivered of all messages of the side, of which one more than its records were counted
messages_are : (h : List Record) (p proxy count messages : ℕ) → p ≡ proxy → count ≡ length (records_of_proxy p h) → messages ≡ count + 1 → messages ≡ messages_of h proxy
messages_are h p proxy count messages own counts more =
    more ∙ ap (λ (n : ℕ). n + 1) (counts ∙ ap (λ (q : ℕ). length (records_of_proxy q h)) own)

pub side_delivered : (config : Config) (h : List Record) (workers now : List EndedView) (side : ProxyView) (p count messages : ℕ)
    → p ≡ side.proxy → count ≡ length (records_of_proxy p h) → messages ≡ count + 1 → now ≡ workers
    → AreSenders side.proxy config.resolvers side.ends → All (IsDelivered messages now) side.ends → IsSideDelivered config h workers side
side_delivered config h workers now side p count messages own counts more same senders all = record {
  senders = senders;
  delivered = subst (λ (n : ℕ). All (IsDelivered n workers) side.ends) (messages_are h p side.proxy count messages own counts more)
      (subst (λ (ws : List EndedView). All (IsDelivered messages ws) side.ends) same all);
}

-- not all were delivered, so the side was not
pub side_not_delivered : (config : Config) (h : List Record) (workers now : List EndedView) (side : ProxyView) (p count messages : ℕ)
    → p ≡ side.proxy → count ≡ length (records_of_proxy p h) → messages ≡ count + 1 → now ≡ workers
    → (All (IsDelivered messages now) side.ends → ⊥) → IsSideDelivered config h workers side → ⊥
side_not_delivered config h workers now side p count messages own counts more same none all =
    none (subst (λ (ws : List EndedView). All (IsDelivered messages ws) side.ends) (sym same)
    (subst (λ (n : ℕ). All (IsDelivered n workers) side.ends) (sym (messages_are h p side.proxy count messages own counts more)) all.delivered))

-- ---- all of a list

within_all : {X : Type 0} (P : X → Type 0) (before : List X) (x : X) (later : List X) → All P (before ++ x ∷ later) → P x
within_all P [] x later all = All-head P x later all
within_all P (y ∷ before) x later all = within_all P before x later (All-tail P y (before ++ x ∷ later) all)

-- what holds of each holds of the next one
pub next_of_all : {X : Type 0} (P : X → Type 0) (before : List X) (x : X) (left later whole : List X)
    → left ≡ x ∷ later → before ++ left ≡ whole → All P whole → P x
next_of_all P before x left later whole next split all =
    within_all P before x later (All-same P (before ++ x ∷ later) whole (ap (λ xs. before ++ xs) (sym next) ∙ split) all)

-- none is left, so these are all
pub none_left : {X : Type 0} (P : X → Type 0) (before left whole : List X) → left ≡ [] → before ++ left ≡ whole → All P before → All P whole
none_left P before left whole none split all =
    All-same P whole before (sym split ∙ ap (λ xs. before ++ xs) none ∙ append-nil before) all
