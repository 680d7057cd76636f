-- What contracts see of a message.
use Rattle.std.specs.Prelude.{ℕ}
use Rattle.inboxes.specs.declared.message.Body.{Body}
use Rattle.inboxes.specs.declared.message.Body.TheVariants as bodies
use Rattle.inboxes.specs.declared.views.MessageKind.TheVariants as kinds
use Rattle.inboxes.specs.declared.views.MessageView.{MessageView}

-- the view of a proxy's request to this resolver, for this row
abbrev pub request_view : (proxy to row : ℕ) → MessageView
request_view proxy to row = record { proxy = proxy; kind = kinds.Request; to = to; row = row }

-- the view of a proxy's Close
abbrev pub close_view : ℕ → MessageView
close_view proxy = record { proxy = proxy; kind = kinds.Close; to = 0; row = 0 }

-- the view of a proxy's End
abbrev pub end_view : ℕ → MessageView
end_view proxy = record { proxy = proxy; kind = kinds.End; to = 0; row = 0 }

-- the view of a proxy's message that says this, where questions are to these resolvers, for these rows
abbrev pub message_view : {C : Type 0} → (to row : C → ℕ) → ℕ → Body C → MessageView
message_view to row proxy (bodies.Request question) =
    request_view proxy (to question) (row question)
message_view to row proxy bodies.Close = close_view proxy
message_view to row proxy bodies.End = end_view proxy
