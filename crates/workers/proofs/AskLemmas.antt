-- Requests that are asked, and what is answered to them.
use Rattle.std.proofs.Common.{◌≡◌, refl, sym, ap, ◌∙◌, subst, ℕ, zero, suc, ◌+◌, ◌<◌, ◌⊎◌, inl, inr, List, [], ◌∷◌, ◌++◌, length, set, take, slice_get, Some, length-append, append_assoc, Bool, eqb, eq-eqb, ne_eqb, arith}
use Rattle.std.specs.Prelude.{IfOk, IsTrue, MatchBool, Result, Ok, Err}
use Rattle.std.proofs.lemmas.Bool.{cases_eq}
use Rattle.std.proofs.lemmas.Option.{same_Some}
use Rattle.facts.specs.Stretches.{Agree}
use Rattle.model.specs.Configs.{Config}
use Rattle.model.specs.Requests.{Request, request}
use Rattle.model.proofs.History.Growth.{push_cases}
use Rattle.locked_resolvers.specs.Requests.{RequestView, IsRequestFor}
use Rattle.locked_resolvers.specs.NotedReplies.{NotedReplyView, IsReplyToRequest}
use Rattle.locked_resolvers.specs.Asking.{AreRepliesInOrder}
use Rattle.locked_resolvers.specs.declared.refusal.Refusal.{Refusal}
use Rattle.locked_resolvers.proofs.Lists.{first_same, take_all}
use Rattle.inboxes.specs.declared.views.MessageView.{MessageView}
use Rattle.inboxes.specs.Ends.{AreSenders, ProxyView, SenderView}
use Rattle.inboxes.specs.Sending.{AreSent, ChangesEnd, IsSent, IsSentTo, with_gone, with_sent}
use Rattle.inboxes.specs.MessageViews.{close_view, request_view}
use Rattle.inboxes.proofs.Sent.{to_proxy}
use Rattle.workers.specs.Asking.{AreAllSent, AreRequestsSent, Gives, HasBeenSent, HasClosed, IsRequestSent}
use Rattle.workers.specs.declared.worker_answer.WorkerAnswer.{WorkerAnswer}
use Rattle.workers.specs.declared.worker_answer.WorkerAnswer.TheVariants as answers

pub take_next : {X : Type 0} (xs : List X) (k : ℕ) (x : X) → slice_get xs k ≡ Some x → take (k + 1) xs ≡ take k xs ++ x ∷ []
take_next [] k x at = absurd (cc)
take_next (y ∷ ys) zero x at = let same : y ≡ x = cc in ap (λ z. z ∷ []) same
take_next (y ∷ ys) (suc k) x at =
    let more : suc k + 1 ≡ suc (k + 1) = omega arith in
    ap (λ n. take n (y ∷ ys)) more ∙ ap (λ zs. y ∷ zs) (take_next ys k x at)

-- one reply more, to the next request
pub order_next : (requests : List RequestView) (k : ℕ) (q : RequestView) (replies : List NotedReplyView) (noted : NotedReplyView) → slice_get requests k ≡ Some q → AreRepliesInOrder (take k requests) replies → IsReplyToRequest q.plain noted.reply → AreRepliesInOrder (take (k + 1) requests) (replies ++ noted ∷ [])
order_next requests k q replies noted at so_far to = subst (λ (qs : List RequestView). AreRepliesInOrder qs (replies ++ noted ∷ [])) (sym (take_next requests k q at)) longer
  where
    by : (place : ℕ) (p : RequestView) (n : NotedReplyView) → ((place ≡ length (take k requests)) × (q ≡ p)) ⊎ ((place < length (take k requests)) × (slice_get (take k requests) place ≡ Some p))
        → ((place ≡ length replies) × (noted ≡ n)) ⊎ ((place < length replies) × (slice_get replies place ≡ Some n)) → IsReplyToRequest p.plain n.reply
    by place p n (inl last_q) (inl last_n) = subst (λ (r : RequestView). IsReplyToRequest r.plain n.reply) last_q.1 (subst (λ (m : NotedReplyView). IsReplyToRequest q.plain m.reply) last_n.1 to)
    by place p n (inl last_q) (inr sooner_n) = let count = so_far.count in absurd (omega (arith, count, last_q.0, sooner_n.0))
    by place p n (inr sooner_q) (inl last_n) = let count = so_far.count in absurd (omega (arith, count, last_n.0, sooner_q.0))
    by place p n (inr sooner_q) (inr sooner_n) = so_far.each place p n sooner_q.1 sooner_n.1

    longer : AreRepliesInOrder (take k requests ++ q ∷ []) (replies ++ noted ∷ [])
    longer =
        record {
          count = let count = so_far.count in omega (arith, count, length-append replies (noted ∷ []), length-append (take k requests) (q ∷ []));
          each = λ place p n at_p at_n. by place p n (push_cases (take k requests) q place p at_p) (push_cases replies noted place n at_n);
        }

-- ---- requests that are sent

-- one request more was sent
pub sent_more : (sent : List RequestView) (q : RequestView) (first before after : ProxyView) → AreRequestsSent sent first before → IsRequestSent q.plain before after → AreRequestsSent (sent ++ q ∷ []) first after
sent_more [] q first before after none more = (after, subst (λ (v : ProxyView). IsRequestSent q.plain v after) none more, refl)
sent_more (p ∷ sent) q first before after (between, one, others) more = (between, one, sent_more sent q between before after others more)

-- ---- what was sent is among what was sent through an end

-- the message was sent to the resolver, or its worker's end is gone
Sent : (to : ℕ) (message : MessageView) (v : ProxyView) → Type 0
Sent to message v = (e : SenderView) × (slice_get v.ends to ≡ Some e) × HasBeenSent message e

set_here : {X : Type 0} (xs : List X) (i : ℕ) (a x : X) → slice_get xs i ≡ Some x → slice_get (set xs i a) i ≡ Some a
set_here [] i a x at = absurd (cc)
set_here (y ∷ ys) zero a x at = refl
set_here (y ∷ ys) (suc i) a x at = set_here ys i a x at

set_other : {X : Type 0} (xs : List X) (i k : ℕ) (a : X) → (k ≡ i → ⊥) → slice_get (set xs i a) k ≡ slice_get xs k
set_other [] i k a apart = refl
set_other (x ∷ xs) zero zero a apart = absurd (apart refl)
set_other (x ∷ xs) zero (suc k) a apart = refl
set_other (x ∷ xs) (suc i) zero a apart = refl
set_other (x ∷ xs) (suc i) (suc k) a apart = set_other xs i k a (λ same. apart (ap (λ (n : ℕ). suc n) same))

one_more : (message other : MessageView) (e : SenderView) → HasBeenSent message e → HasBeenSent message (with_sent other e)
one_more message other e (inl (before, after, is)) =
    inl (before, after ++ other ∷ [], ap (λ (ms : List MessageView). ms ++ other ∷ []) is ∙ append_assoc before (message ∷ after) (other ∷ []))
one_more message other e (inr gone) = inr gone

still_gone : (message : MessageView) (e : SenderView) → HasBeenSent message e → HasBeenSent message (with_gone e)
still_gone message e sent = inr refl

-- what was sent was sent still, whatever is sent then to whatever resolver
changed_still : (to r : ℕ) (message : MessageView) (change : SenderView → SenderView) (before after : ProxyView) → ((e : SenderView) → HasBeenSent message e → HasBeenSent message (change e))
    → ChangesEnd r change before after → Sent to message before → Sent to message after
unfolding Sent
changed_still to r message change before after keeps changes (e, at, sent) = by (cases_eq to r)
  where
    here : to ≡ r → Sent to message after
    here same =
        let there : slice_get before.ends to ≡ Some changes.sender = ap (λ (k : ℕ). slice_get before.ends k) same ∙ changes.there in
        let one : e ≡ changes.sender = same_Some e changes.sender (sym at ∙ there) in (
          change changes.sender,
          ap (λ (es : List SenderView). slice_get es to) changes.ends ∙ ap (λ (k : ℕ). slice_get (set before.ends k (change changes.sender)) to) (sym same)
              ∙ set_here before.ends to (change changes.sender) e at,
          keeps changes.sender (subst (HasBeenSent message) one sent),
        )

    by : (to ≡ r) ⊎ (to ≡ r → ⊥) → Sent to message after
    by (inl same) = here same
    by (inr apart) = (e, ap (λ (es : List SenderView). slice_get es to) changes.ends ∙ set_other before.ends r to (change changes.sender) apart ∙ at, sent)

sent_still : (to r : ℕ) (message other : MessageView) (before after : ProxyView) → IsSentTo r other before after → Sent to message before → Sent to message after
sent_still to r message other before after (inl sent) was = changed_still to r message (with_sent other) before after (one_more message other) sent was
sent_still to r message other before after (inr gone) was = changed_still to r message with_gone before after (still_gone message) gone was

sent_now : (r : ℕ) (message : MessageView) (before after : ProxyView) → IsSentTo r message before after → Sent r message after
unfolding Sent
sent_now r message before after (inl sent) = (
  with_sent message sent.sender,
  ap (λ (es : List SenderView). slice_get es r) sent.ends ∙ set_here before.ends r (with_sent message sent.sender) sent.sender sent.there,
  inl (sent.sender.put, [], refl),
)
sent_now r message before after (inr gone) = (
  with_gone gone.sender,
  ap (λ (es : List SenderView). slice_get es r) gone.ends ∙ set_here before.ends r (with_gone gone.sender) gone.sender gone.there,
  inr refl,
)

all_still : (to : ℕ) (message : MessageView) (requests : List RequestView) (before after : ProxyView) → AreRequestsSent requests before after → Sent to message before → Sent to message after
all_still to message [] before after none was = subst (Sent to message) (sym none) was
all_still to message (q ∷ requests) before after (between, one, others) was =
    all_still to message requests between after others (sent_still to q.plain.resolver message (request_view before.proxy q.plain.resolver q.plain.row) before between one was)

same_proxy : (requests : List RequestView) (before after : ProxyView) → AreRequestsSent requests before after → after.proxy ≡ before.proxy
same_proxy [] before after none = ap (λ (v : ProxyView). v.proxy) none
same_proxy (q ∷ requests) before after (between, one, others) = same_proxy requests between after others ∙ to_proxy q.plain.resolver (request_view before.proxy q.plain.resolver q.plain.row) before between one

pub all_sent : (requests : List RequestView) (before after : ProxyView) → AreRequestsSent requests before after → AreAllSent requests after
unfolding Sent
all_sent [] before after none place q at = absurd (cc)
all_sent (p ∷ requests) before after (between, one, others) zero q at =
    let same : p ≡ q = same_Some p q at in
    let of : after.proxy ≡ before.proxy = same_proxy (p ∷ requests) before after (between, one, others) in
    subst (λ (r : RequestView). Sent r.plain.resolver (request_view after.proxy r.plain.resolver r.plain.row) after) same
    (subst (λ (proxy : ℕ). Sent p.plain.resolver (request_view proxy p.plain.resolver p.plain.row) after) (sym of)
    (all_still p.plain.resolver (request_view before.proxy p.plain.resolver p.plain.row) requests between after others (sent_now p.plain.resolver (request_view before.proxy p.plain.resolver p.plain.row) before between one)))
all_sent (p ∷ requests) before after (between, one, others) (suc place) q at = all_sent requests between after others place q at

-- ---- a Close through each end

pub has_closed : (resolvers : ℕ) (before after : ProxyView) → after.proxy ≡ before.proxy → AreSent (close_view before.proxy) before.ends after.ends → AreSenders after.proxy resolvers after.ends → HasClosed resolvers after
has_closed resolvers before after same sent senders =
    record {
      senders = senders;
      each = λ k e at. let own = sent.each k e at in by own.0 e own.2;
    }
  where
    by : (old e : SenderView) → IsSent (close_view before.proxy) old e → ((ms : List MessageView) × (e.put ≡ ms ++ close_view after.proxy ∷ [])) ⊎ IsTrue e.gone
    by old e (inl is) = inl (old.put, ap (λ (s : SenderView). s.put) is ∙ ap (λ (p : ℕ). old.put ++ close_view p ∷ []) (sym same))
    by old e (inr is) = inr (ap (λ (s : SenderView). s.gone) is)

-- ---- a request that came back

-- a test of two numbers decides what holds if they are the same, and what holds if they are not
pub match_eq : (a b : ℕ) (P Q : Type 0) → (a ≡ b → P) → ((a ≡ b → ⊥) → Q) → MatchBool (eqb a b) P Q
match_eq a b P Q holds fails = by (cases_eq a b)
  where
    by : (a ≡ b) ⊎ (a ≡ b → ⊥) → MatchBool (eqb a b) P Q
    by (inl same) = subst (λ (t : Bool). MatchBool t P Q) (sym (eq-eqb a b same)) (holds same)
    by (inr apart) = subst (λ (t : Bool). MatchBool t P Q) (sym (ne_eqb a b apart)) (fails apart)

-- requests for one row to one resolver, by one version last received, with records that agree, are one
pub one_request : (config : Config) (v w : RequestView) → IsRequestFor config v → IsRequestFor config w → Agree 0 v.records 0 w.records
    → v.plain.row ≡ w.plain.row → v.plain.resolver ≡ w.plain.resolver → v.plain.last_received ≡ w.plain.last_received → v ≡ w
one_request config v w is_v is_w agree row resolver received =
    let same : is_v.rec ≡ is_w.rec = agree v.plain.row w.plain.row is_v.rec is_w.rec (ap (λ (k : ℕ). 0 + k) row) is_v.there is_w.there in
    let plain : v.plain ≡ w.plain = is_v.is ∙ (λ i. request config (same i) (received i) (resolver i)) ∙ sym is_w.is in
    let mine = is_v.last in
    let theirs = is_w.last in
    let count : length v.records ≡ length w.records = omega (arith, mine, theirs, row) in
    let records : v.records ≡ w.records = sym (take_all v.records (length v.records) (omega arith)) ∙ first_same (length v.records) v.records w.records agree (omega arith) (omega (arith, count)) ∙ take_all w.records (length v.records) (omega (arith, count)) in
    λ i. record { plain = plain i; records = records i }

-- ---- what an answer gives

-- the reply that an answer gives to a request is to that request
pub reply_given : {N : Type 0} (q : Request) (answer : WorkerAnswer N) (given : Result NotedReplyView Refusal) → Gives q answer (Some given) → IfOk given (λ (noted : NotedReplyView). IsReplyToRequest q noted.reply)
reply_given q (answers.Replied noted) (Ok reply) (inl (to, is)) = let same : noted ≡ reply = cc in subst (λ (n : NotedReplyView). IsReplyToRequest q n.reply) same to
reply_given q (answers.Replied noted) (Ok reply) (inr (other, none)) = absurd (cc)
reply_given q (answers.Replied noted) (Err refusal) gives = tt
reply_given q (answers.Refused refused) (Ok reply) (inl (same, is)) = absurd (cc)
reply_given q (answers.Refused refused) (Ok reply) (inr (other, none)) = absurd (cc)
reply_given q (answers.Refused refused) (Err refusal) gives = tt
