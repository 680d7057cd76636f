-- The counts after one message more.
use Rattle.std.proofs.Common.{◌≡◌, ℕ, ◌+◌, ◌-◌, ◌^◌, ◌<◌, ◌≤◌, ◌⊎◌, inl, inr, min, List, [], ◌∷◌, ◌++◌, length, get_or, set, sym, refl, ap, ◌∙◌, subst, arith, length-append, length-set, replicate}
use Rattle.std.proofs.lemmas.Bool.{cases_lt, cases_eq}
use Rattle.std.proofs.lemmas.List.{get_or-set_same, get_or-set_other, length-replicate, get_or-replicate}
use Rattle.inboxes.specs.declared.views.MessageView.{MessageView}
use Rattle.inboxes.specs.Counts.{AreCounts, counted}
use Rattle.inboxes.specs.Delivers.{of_proxy}
use Rattle.inboxes.proofs.Moves.{of_mine, of_other}

-- one message more is one more, up to the greatest number
one_more : (count size more most : ℕ) → count ≡ min size most → more ≡ size + 1
    → min (count + 1) most ≡ min more most
one_more count size more most is longer = omega arith

pub counted_more : (messages : List MessageView) (x : MessageView) (count : ℕ) → count ≡ counted messages
    → min (count + 1) (2 ^ 64 - 1) ≡ counted (messages ++ x ∷ [])
counted_more messages x count is =
    one_more count (length messages) (length (messages ++ x ∷ [])) (2 ^ 64 - 1) is (length-append messages (x ∷ []))

-- the count of the message's proxy is one more, and the others stay
counts_inside : (proxies : ℕ) (got : List MessageView) (x : MessageView) (before : List ℕ) → AreCounts proxies got before
    → x.proxy < length before
    → AreCounts proxies (got ++ x ∷ []) (set before x.proxy (min (get_or before x.proxy 0 + 1) (2 ^ 64 - 1)))
counts_inside proxies got x before are within = (
  length-set before x.proxy (min (get_or before x.proxy 0 + 1) (2 ^ 64 - 1)) ∙ are.0,
  λ proxy there. by proxy there (cases_eq x.proxy proxy),
)
  where
    by : (proxy : ℕ) → proxy < proxies → (x.proxy ≡ proxy) ⊎ (x.proxy ≡ proxy → ⊥)
        → get_or (set before x.proxy (min (get_or before x.proxy 0 + 1) (2 ^ 64 - 1))) proxy 0 ≡ counted (of_proxy proxy (got ++ x ∷ []))
    by proxy there (inl same) =
        let Is : ℕ → Type 0 = λ p. get_or (set before x.proxy (min (get_or before x.proxy 0 + 1) (2 ^ 64 - 1))) p 0 ≡ counted (of_proxy p (got ++ x ∷ [])) in
        subst Is same
        (get_or-set_same before x.proxy (min (get_or before x.proxy 0 + 1) (2 ^ 64 - 1)) 0 within
        ∙ counted_more (of_proxy x.proxy got) x (get_or before x.proxy 0) (are.1 x.proxy (omega (arith, are.0, within)))
        ∙ ap counted (sym (of_mine x.proxy got x refl)))
    by proxy there (inr apart) =
        get_or-set_other before x.proxy proxy (min (get_or before x.proxy 0 + 1) (2 ^ 64 - 1)) 0 (λ same. apart (sym same))
        ∙ are.1 proxy there
        ∙ ap counted (sym (of_other proxy got x apart))

-- a message of no proxy is not counted
counts_beyond : (proxies : ℕ) (got : List MessageView) (x : MessageView) (before : List ℕ) → AreCounts proxies got before
    → length before ≤ x.proxy → AreCounts proxies (got ++ x ∷ []) before
counts_beyond proxies got x before are beyond = (
  are.0,
  λ proxy there. are.1 proxy there ∙ ap counted (sym (of_other proxy got x (λ same. omega (arith, are.0, there, beyond, same)))),
)

pub counts_more : (proxies : ℕ) (got : List MessageView) (x : MessageView) (before after : List ℕ) → AreCounts proxies got before
    → (x.proxy < length before → after ≡ set before x.proxy (min (get_or before x.proxy 0 + 1) (2 ^ 64 - 1)))
    → (length before ≤ x.proxy → after ≡ before)
    → AreCounts proxies (got ++ x ∷ []) after
counts_more proxies got x before after are one_set kept = by (cases_lt x.proxy (length before))
  where
    by : (x.proxy < length before) ⊎ (length before ≤ x.proxy) → AreCounts proxies (got ++ x ∷ []) after
    by (inl within) = subst (λ (counts : List ℕ). AreCounts proxies (got ++ x ∷ []) counts) (sym (one_set within)) (counts_inside proxies got x before are within)
    by (inr beyond) = subst (λ (counts : List ℕ). AreCounts proxies (got ++ x ∷ []) counts) (sym (kept beyond)) (counts_beyond proxies got x before are beyond)

-- no messages, and no counts but 0
pub no_counts : (proxies : ℕ) (counts : List ℕ) → counts ≡ replicate proxies 0 → AreCounts proxies [] counts
no_counts proxies counts are = (
  ap (λ (c : List ℕ). length c) are ∙ length-replicate proxies 0,
  λ proxy there. ap (λ (c : List ℕ). get_or c proxy 0) are ∙ get_or-replicate proxies proxy 0 0 there,
)
