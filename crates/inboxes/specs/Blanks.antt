-- Inboxes without names.
use Rattle.std.specs.Prelude.{◌≡◌, ℕ, List, length, slice_get, Some}
use Rattle.inboxes.specs.Places.{Place}
use Rattle.inboxes.specs.Ends.{IsEach, ProxyView, fresh_sender}

-- a channel, and for how many proxies it has given a sending end: for those from 0 on
pub record BlankInboxView : Type 0 where
  pub place : Place
  pub made : ℕ

-- a sending end of a proxy
pub record BlankSenderView : Type 0 where
  pub place : Place
  pub proxy : ℕ

-- the sending ends of a proxy, by the channels that they are of
pub record BlankSendersView : Type 0 where
  pub proxy : ℕ
  pub places : List Place

-- the given number of proxies, each with an end of each of these channels, in their order
abbrev pub AreBlankSenders : ℕ → List Place → List BlankSendersView → Type 0
AreBlankSenders proxies places = IsEach (λ p. record { proxy = p; places = places }) proxies

-- the side of the proxy: an end to each of the cluster's resolvers, in order, through which nothing was sent
abbrev pub IsFreshSide : (proxy resolvers : ℕ) → ProxyView → Type 0
IsFreshSide proxy resolvers side =
    (side.proxy ≡ proxy) × IsEach (fresh_sender proxy) resolvers side.ends

-- the sides of all proxies, in order, each with an end to each resolver, through which nothing was sent
abbrev pub AreSides : (proxies resolvers : ℕ) → List ProxyView → Type 0
AreSides proxies resolvers sides =
    (length sides ≡ proxies)
    × ((p : ℕ) (side : ProxyView) → slice_get sides p ≡ Some side → IsFreshSide p resolvers side)
