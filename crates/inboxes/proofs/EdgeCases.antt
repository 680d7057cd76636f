-- Messages that are, and that are not, those of an ended sender.
use Rattle.std.proofs.Common.{◌≡◌, refl, sym, ap, ◌∙◌, ℕ, zero, suc, ◌+◌, inl, inr, List, [], ◌∷◌, ◌++◌, length, slice_get, Some, arith, length-append}
use Rattle.std.proofs.lemmas.Option.{same_Some}
use Rattle.inboxes.specs.declared.views.MessageView.{MessageView}
use Rattle.inboxes.specs.declared.views.MessageKind.TheVariants as kinds
use Rattle.inboxes.specs.Edges.{ACloseFollowsTheEnd, AnotherProxyEnds, NoEndIsSent, TheEndComesLast, TheEndIsSentTwice, TheWorkerIsGone}
use Rattle.inboxes.specs.Sending.{HasEndLast, ends_in}
use Rattle.inboxes.specs.MessageViews.{close_view, end_view, request_view}
use Rattle.inboxes.proofs.Sent.{one_end}

at_last : (before : List MessageView) (x : MessageView) → slice_get (before ++ x ∷ []) (length before) ≡ Some x
at_last [] x = refl
at_last (y ∷ before) x = at_last before x

-- the last message of two is the End
second_is : (proxy : ℕ) (x y : MessageView) → HasEndLast proxy (x ∷ y ∷ []) → y ≡ end_view proxy
second_is proxy x y (before, none, is) =
    let count : suc (suc zero) ≡ length before + 1 = ap (λ (ms : List MessageView). length ms) is ∙ length-append before (end_view proxy ∷ []) in
    let one : length before ≡ suc zero = omega (arith, count) in
    same_Some y (end_view proxy) (ap (λ (ms : List MessageView). slice_get ms (suc zero)) is ∙ ap (slice_get (before ++ end_view proxy ∷ [])) (sym one) ∙ at_last before (end_view proxy))

-- so is the only message
only_is : (proxy : ℕ) (x : MessageView) → HasEndLast proxy (x ∷ []) → x ≡ end_view proxy
only_is proxy x (before, none, is) =
    let count : suc zero ≡ length before + 1 = ap (λ (ms : List MessageView). length ms) is ∙ length-append before (end_view proxy ∷ []) in
    let one : length before ≡ zero = omega (arith, count) in
    same_Some x (end_view proxy) (ap (λ (ms : List MessageView). slice_get ms zero) is ∙ ap (slice_get (before ++ end_view proxy ∷ [])) (sym one) ∙ at_last before (end_view proxy))

no_close : (proxy : ℕ) → close_view proxy ≡ end_view proxy → ⊥
no_close proxy same = let kind : kinds.Close ≡ kinds.End = ap (λ (t : MessageView). t.kind) same in absurd (cc)

pub the_end_comes_last : TheEndComesLast
the_end_comes_last = inl (request_view 1 0 0 ∷ close_view 1 ∷ [], refl, refl)

pub no_end_is_sent : NoEndIsSent
no_end_is_sent (inl last) = no_close 1 (second_is 1 (request_view 1 0 0) (close_view 1) last)
no_end_is_sent (inr (none, gone)) = absurd (cc)

pub a_close_follows_the_end : ACloseFollowsTheEnd
a_close_follows_the_end (inl last) = no_close 1 (second_is 1 (end_view 1) (close_view 1) last)
a_close_follows_the_end (inr (none, gone)) = absurd (cc)

pub the_end_is_sent_twice : TheEndIsSentTwice
the_end_is_sent_twice (inl (before, none, is)) =
    let two : 2 ≡ ends_in before + 1 = ap (λ (ms : List MessageView). ends_in ms) is ∙ one_end before (end_view 1) refl in
    absurd (omega (arith, two, none))
the_end_is_sent_twice (inr (none, gone)) = absurd (cc)

pub another_proxy_ends : AnotherProxyEnds
another_proxy_ends (inl last) = let proxy : 0 ≡ 1 = ap (λ (t : MessageView). t.proxy) (only_is 1 (end_view 0) last) in absurd (omega (arith, proxy))
another_proxy_ends (inr (none, gone)) = absurd (cc)

pub the_worker_is_gone : TheWorkerIsGone
the_worker_is_gone = inr (refl, refl)
