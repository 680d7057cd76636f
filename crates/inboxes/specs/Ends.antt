-- The ends of inboxes, as contracts see them.
use Rattle.std.specs.Prelude.{◌≡◌, ℕ, List, [], ◌++◌, length, slice_get, Some, Bool, false}
use Rattle.inboxes.specs.declared.views.MessageView.{MessageView}
use Rattle.inboxes.specs.Delivers.{of_proxy}

-- A proxy's sending end to the inbox of a resolver, what was sent through it, oldest first, and
-- whether a send was refused: the worker's end of the inbox is gone.
pub record SenderView : Type 0 where
  pub resolver : ℕ
  pub proxy : ℕ
  pub put : List MessageView
  pub gone : Bool

-- the end of the proxy to this resolver, before the first message
abbrev pub fresh_sender : (proxy resolver : ℕ) → SenderView
fresh_sender proxy resolver = record {
  resolver = resolver;
  proxy = proxy;
  put = [];
  gone = false;
}

-- the worker's side of the inbox of a resolver, and what it took of all proxies, oldest first
pub record WorkerPassView : Type 0 where
  pub resolver : ℕ
  pub got : List MessageView

-- What was taken of the proxy begins what it sent: the same messages, in the same order, each once.
abbrev pub IsBeginning : WorkerPassView → SenderView → Type 0
IsBeginning pass ended =
    (rest : List MessageView) × (ended.put ≡ of_proxy ended.proxy pass.got ++ rest)

-- a proxy's side of all inboxes: its number, and its sending ends
pub record ProxyView : Type 0 where
  pub proxy : ℕ
  pub ends : List SenderView

-- the list has this length, and each element is the one that belongs at its place
abbrev pub IsEach : {X : Type 0} → (ℕ → X) → ℕ → List X → Type 0
IsEach {X} member count xs =
    (length xs ≡ count) × ((k : ℕ) (x : X) → slice_get xs k ≡ Some x → x ≡ member k)

-- this number of ends, each of the proxy and to the resolver of its place
abbrev pub AreSenders : ℕ → ℕ → List SenderView → Type 0
AreSenders proxy count ends =
    (length ends ≡ count)
    × ((k : ℕ) (e : SenderView) → slice_get ends k ≡ Some e → (e.resolver ≡ k) × (e.proxy ≡ proxy))
