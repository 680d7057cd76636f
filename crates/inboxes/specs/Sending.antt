-- What a proxy sends through its ends.
use Rattle.std.specs.Prelude.{◌≡◌, ◌⊎◌, ℕ, List, [], ◌∷◌, ◌++◌, length, slice_get}
use Rattle.std.specs.Prelude.{slice_set, Some, Bool, true, false, IsTrue, filter}
use Rattle.inboxes.specs.declared.views.MessageView.{MessageView}
use Rattle.inboxes.specs.declared.views.MessageKind.{MessageKind}
use Rattle.inboxes.specs.declared.views.MessageKind.TheVariants as kinds
use Rattle.inboxes.specs.Ends.{ProxyView, SenderView}
use Rattle.inboxes.specs.MessageViews.{end_view}

-- the message is a Close, or a request to this resolver
abbrev pub IsFor : (resolver : ℕ) → MessageView → Type 0
IsFor resolver message =
    (message.kind ≡ kinds.Close) ⊎ ((message.kind ≡ kinds.Request) × (message.to ≡ resolver))

-- whether it is the kind of a proxy's last message
abbrev pub is_last_kind : MessageKind → Bool
is_last_kind kinds.Request = false
is_last_kind kinds.Close = false
is_last_kind kinds.End = true

-- whether the message is an End
abbrev pub is_end : MessageView → Bool
is_end message = is_last_kind message.kind

-- how many of the messages are Ends
abbrev pub ends_in : List MessageView → ℕ
ends_in messages = length (filter is_end messages)

-- End was sent through none of the ends
abbrev pub AreOpen : List SenderView → Type 0
AreOpen ends = (k : ℕ) (e : SenderView) → slice_get ends k ≡ Some e → ends_in e.put ≡ 0

-- The proxy's End is the last of the messages, and no other is an End.
abbrev pub HasEndLast : (proxy : ℕ) → List MessageView → Type 0
HasEndLast proxy messages =
    (before : List MessageView) × (ends_in before ≡ 0) × (messages ≡ before ++ end_view proxy ∷ [])

-- The proxy sends no more through this end. The last message was its End, and no other was one; or no
-- End was sent, since the worker's end is gone.
abbrev pub IsEndedSender : (proxy : ℕ) → SenderView → Type 0
IsEndedSender proxy e = HasEndLast proxy e.put ⊎ ((ends_in e.put ≡ 0) × IsTrue e.gone)

-- the proxy sends no more through any of the ends
abbrev pub AreEndedSenders : (proxy : ℕ) → List SenderView → Type 0
AreEndedSenders proxy ends =
    (k : ℕ) (e : SenderView) → slice_get ends k ≡ Some e → IsEndedSender proxy e

-- one message more was sent
abbrev pub with_sent : MessageView → SenderView → SenderView
with_sent message e = record e { put = e.put ++ message ∷ [] }

-- a send was refused
abbrev pub with_gone : SenderView → SenderView
with_gone e = record e { gone = true }

-- the message was sent through the end, or refused, since the worker's end is gone
abbrev pub IsSent : MessageView → (before after : SenderView) → Type 0
IsSent message before after = (after ≡ with_sent message before) ⊎ (after ≡ with_gone before)

-- what is sent to this resolver changes its end so, and no other
pub record ChangesEnd (resolver : ℕ) (change : SenderView → SenderView) (before after : ProxyView) :
    Type 0 where
  pub proxy : after.proxy ≡ before.proxy
  pub sender : SenderView
  pub there : slice_get before.ends resolver ≡ Some sender
  pub ends : after.ends ≡ slice_set before.ends resolver (change sender)

-- the message was sent to this resolver, or refused, since the worker's end is gone
abbrev pub IsSentTo : (resolver : ℕ) → MessageView → (before after : ProxyView) → Type 0
IsSentTo resolver message before after =
    ChangesEnd resolver (with_sent message) before after ⊎ ChangesEnd resolver with_gone before after

-- through each of the ends the message was sent, or refused, since the worker's end is gone
pub record AreSent (message : MessageView) (before after : List SenderView) : Type 0 where
  pub count : length after ≡ length before
  pub each :
      (k : ℕ) (e : SenderView) → slice_get after k ≡ Some e
      → (old : SenderView) × (slice_get before k ≡ Some old) × IsSent message old e
