-- What was sent through the ends of a proxy.
use Rattle.std.proofs.Common.{◌≡◌, ◌≢◌, ℕ, ◌+◌, ◌<◌, ◌≤◌, ◌⊎◌, inl, inr, ⊎_elim, Bool, true, false, cond, List, [], ◌∷◌, ◌++◌, length, set, slice_get, Some, Result, Ok, Err, sym, refl, ap, ◌∙◌, subst, arith, length-append, length-set}
use Rattle.std.specs.Prelude.{⊤, IfOk, IfErr, filter}
use Rattle.std.proofs.lemmas.List.{append-nil}
use Rattle.std.proofs.lemmas.List.Elements.{filter-append}
use Rattle.std.proofs.lemmas.Option.{slice_get_within}
use Rattle.inboxes.specs.declared.views.MessageView.{MessageView}
use Rattle.inboxes.specs.declared.views.MessageKind.{MessageKind}
use Rattle.inboxes.specs.Ends.{AreSenders, IsEach, ProxyView, SenderView, fresh_sender}
use Rattle.inboxes.specs.Sending.{AreEndedSenders, AreOpen, AreSent, ChangesEnd, IsEndedSender, IsFor, IsSent, IsSentTo, ends_in, is_end, is_last_kind, with_gone, with_sent}
use Rattle.inboxes.specs.MessageViews.{end_view}
use Rattle.inboxes.proofs.Each.{get_set}

-- through the first of the ends the message was sent so, and nothing through the others
pub record AreSentTo (done : ℕ) (message : MessageView) (before after : List SenderView) : Type 0 where
  pub count : length after ≡ length before
  pub each :
      (k : ℕ) (e : SenderView) → slice_get after k ≡ Some e
      → (old : SenderView) × (slice_get before k ≡ Some old)
      × (k < done → IsSent message old e) × (done ≤ k → e ≡ old)

-- ---- how many Ends there are

pub one_end : (ms : List MessageView) (x : MessageView) → is_end x ≡ true → ends_in (ms ++ x ∷ []) ≡ ends_in ms + 1
one_end ms x last =
    ap (λ (l : List MessageView). length l) (filter-append is_end ms (x ∷ []) ∙ ap (λ (b : Bool). filter is_end ms ++ cond b (x ∷ []) []) last)
    ∙ length-append (filter is_end ms) (x ∷ [])

pub no_end : (ms : List MessageView) (x : MessageView) → is_end x ≡ false → ends_in (ms ++ x ∷ []) ≡ ends_in ms
no_end ms x other =
    ap (λ (l : List MessageView). length l)
    (filter-append is_end ms (x ∷ []) ∙ ap (λ (b : Bool). filter is_end ms ++ cond b (x ∷ []) []) other ∙ append-nil (filter is_end ms))

-- a Close and a request are no End
pub not_end : (resolver : ℕ) (x : MessageView) → IsFor resolver x → is_end x ≡ false
not_end resolver x (inl closes) = ap (λ (k : MessageKind). is_last_kind k) closes
not_end resolver x (inr asks) = ap (λ (k : MessageKind). is_last_kind k) asks.0

-- ---- one end of a proxy

pub sent_or_gone : (result : Result ⊤ MessageView) (message : MessageView) (before after : SenderView)
    → IfOk result (λ _. after ≡ with_sent message before)
    → IfErr result (λ back. (back ≡ message) × (after ≡ with_gone before)) → IsSent message before after
sent_or_gone (Ok done) message before after sent refused = inl sent
sent_or_gone (Err back) message before after sent refused = inr refused.1

pub sent_same : (message : MessageView) (before after : SenderView) → IsSent message before after
    → (after.resolver ≡ before.resolver) × (after.proxy ≡ before.proxy)
sent_same message before after (inl sent) = (ap (λ (s : SenderView). s.resolver) sent, ap (λ (s : SenderView). s.proxy) sent)
sent_same message before after (inr gone) = (ap (λ (s : SenderView). s.resolver) gone, ap (λ (s : SenderView). s.proxy) gone)

pub still_open : (resolver : ℕ) (message : MessageView) (before after : SenderView) → IsFor resolver message
    → IsSent message before after → ends_in before.put ≡ 0 → ends_in after.put ≡ 0
still_open resolver message before after for_it (inl sent) none =
    ap (λ (s : SenderView). ends_in s.put) sent ∙ no_end before.put message (not_end resolver message for_it) ∙ none
still_open resolver message before after for_it (inr gone) none = ap (λ (s : SenderView). ends_in s.put) gone ∙ none

-- ---- all ends of a proxy

pub open_set : (k : ℕ) (ends : List SenderView) (after : SenderView) → AreOpen ends → ends_in after.put ≡ 0
    → AreOpen (set ends k after)
open_set k ends after are none j e at =
    ⊎_elim (λ h. ap (λ (s : SenderView). ends_in s.put) (sym h.1) ∙ none) (λ h. are j e h.1) (get_set ends k j after e at)

pub fresh_are_senders : (proxy n : ℕ) (ends : List SenderView) → IsEach (fresh_sender proxy) n ends → AreSenders proxy n ends
fresh_are_senders proxy n ends each = (
  each.0,
  λ k e at. (ap (λ (s : SenderView). s.resolver) (each.1 k e at), ap (λ (s : SenderView). s.proxy) (each.1 k e at)),
)

pub fresh_are_open : (proxy n : ℕ) (ends : List SenderView) → IsEach (fresh_sender proxy) n ends → AreOpen ends
fresh_are_open proxy n ends each k e at = ap (λ (s : SenderView). ends_in s.put) (each.1 k e at)

-- ---- one end after another

pub sent_none : (message : MessageView) (ends : List SenderView) → AreSentTo 0 message ends ends
sent_none message ends =
    record {
      count = refl;
      each = λ k e at. (e, at, (λ below. absurd (omega (arith, below))), λ _. refl);
    }

pub sent_next : (done : ℕ) (message : MessageView) (before between : List SenderView) (old new : SenderView)
    → AreSentTo done message before between → slice_get between done ≡ Some old → IsSent message old new
    → AreSentTo (done + 1) message before (set between done new)
sent_next done message before between old new are there sent =
    record {
      count = length-set between done new ∙ are.count;
      each = λ k e at. by k e (get_set between done k new e at);
    }
  where
    by : (k : ℕ) (e : SenderView) → ((k ≡ done) × (new ≡ e)) ⊎ ((k ≢ done) × (slice_get between k ≡ Some e))
        → (first : SenderView) × (slice_get before k ≡ Some first) × (k < done + 1 → IsSent message first e) × (done + 1 ≤ k → e ≡ first)
    by k e (inl here) =
        let own = are.each done old there in
        let same : old ≡ own.0 = own.3 (omega arith) in (
          own.0,
          ap (λ (j : ℕ). slice_get before j) here.0 ∙ own.1,
          (λ below. subst (λ (s : SenderView). IsSent message own.0 s) here.1 (subst (λ (s : SenderView). IsSent message s new) same sent)),
          (λ above. absurd (omega (arith, above, here.0))),
        )
    by k e (inr other) =
        let own = are.each k e other.1 in
        let apart = other.0 in (
          own.0,
          own.1,
          (λ below. own.2 (omega (arith, below, apart))),
          (λ above. own.3 (omega (arith, above))),
        )

pub sent_all : (done : ℕ) (message : MessageView) (before after : List SenderView) → AreSentTo done message before after
    → done ≡ length before → AreSent message before after
sent_all done message before after are all =
    record {
      count = are.count;
      each = λ k e at.
          let own = are.each k e at in
          let count = are.count in
          let within = slice_get_within after k e at in
          (own.0, own.1, own.2 (omega (arith, within, count, all)));
    }

-- ---- the last message

ended_one : (proxy : ℕ) (before after : SenderView) → IsSent (end_view proxy) before after → ends_in before.put ≡ 0 → IsEndedSender proxy after
ended_one proxy before after (inl sent) none = inl (before.put, none, ap (λ (s : SenderView). s.put) sent)
ended_one proxy before after (inr gone) none = inr (ap (λ (s : SenderView). ends_in s.put) gone ∙ none, ap (λ (s : SenderView). s.gone) gone)

pub all_ended : (proxy : ℕ) (before after : List SenderView) → AreSent (end_view proxy) before after → AreOpen before → AreEndedSenders proxy after
all_ended proxy before after are unended k e at =
    let own = are.each k e at in ended_one proxy own.0 e own.2 (unended k own.0 own.1)

pub sent_senders : (proxy n : ℕ) (message : MessageView) (before after : List SenderView) → AreSent message before after → AreSenders proxy n before → AreSenders proxy n after
sent_senders proxy n message before after are senders = (
  are.count ∙ senders.0,
  λ k e at.
      let own = are.each k e at in
      let same = sent_same message own.0 e own.2 in
      let was = senders.1 k own.0 own.1 in
      (same.0 ∙ was.0, same.1 ∙ was.1),
)

-- the ends so far are the proxy's, to their resolvers
pub sent_to_senders : (done proxy n : ℕ) (message : MessageView) (before after : List SenderView) → AreSentTo done message before after → AreSenders proxy n before
    → (k : ℕ) (e : SenderView) → done ≤ k → slice_get after k ≡ Some e → e.proxy ≡ proxy
sent_to_senders done proxy n message before after are senders k e above at =
    let own = are.each k e at in ap (λ (s : SenderView). s.proxy) (own.3 above) ∙ (senders.1 k own.0 own.1).1

-- ---- a send to a resolver

pub changed : (result : Result ⊤ MessageView) (resolver : ℕ) (message : MessageView) (before after : ProxyView)
    → IfOk result (λ _. ChangesEnd resolver (with_sent message) before after)
    → IfErr result (λ back. (back ≡ message) × ChangesEnd resolver with_gone before after) → IsSentTo resolver message before after
changed (Ok done) resolver message before after sent refused = inl sent
changed (Err back) resolver message before after sent refused = inr refused.1

pub to_next : (done : ℕ) (message : MessageView) (first : List SenderView) (before after : ProxyView)
    → AreSentTo done message first before.ends → IsSentTo done message before after
    → AreSentTo (done + 1) message first after.ends
to_next done message first before after are (inl sent) =
    subst (λ (ends : List SenderView). AreSentTo (done + 1) message first ends) (sym sent.ends)
    (sent_next done message first before.ends sent.sender (with_sent message sent.sender) are sent.there (inl refl))
to_next done message first before after are (inr gone) =
    subst (λ (ends : List SenderView). AreSentTo (done + 1) message first ends) (sym gone.ends)
    (sent_next done message first before.ends gone.sender (with_gone gone.sender) are gone.there (inr refl))

pub to_proxy : (resolver : ℕ) (message : MessageView) (before after : ProxyView) → IsSentTo resolver message before after → after.proxy ≡ before.proxy
to_proxy resolver message before after (inl sent) = sent.proxy
to_proxy resolver message before after (inr gone) = gone.proxy
