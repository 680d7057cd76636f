-- Edge cases of the definition of an ended sender: what meets it, and what does not in one point.
use Rattle.std.specs.Prelude.{List, [], ◌∷◌, Bool, true, false}
use Rattle.inboxes.specs.declared.views.MessageView.{MessageView}
use Rattle.inboxes.specs.Ends.{SenderView}
use Rattle.inboxes.specs.Sending.{IsEndedSender}
use Rattle.inboxes.specs.MessageViews.{close_view, end_view, request_view}

-- proxy 1's end to resolver 0, through which these messages were sent
abbrev pub sender_of : List MessageView → (gone : Bool) → SenderView
sender_of messages gone =
    record { resolver = 0; proxy = 1; put = messages; gone = gone }

-- a request, a Close and the End
abbrev pub TheEndComesLast : Type 0
TheEndComesLast =
    IsEndedSender 1 (sender_of (request_view 1 0 0 ∷ close_view 1 ∷ end_view 1 ∷ []) false)

-- no End was sent, and the worker's end is there
abbrev pub NoEndIsSent : Type 0
NoEndIsSent = IsEndedSender 1 (sender_of (request_view 1 0 0 ∷ close_view 1 ∷ []) false) → ⊥

-- a Close follows the End
abbrev pub ACloseFollowsTheEnd : Type 0
ACloseFollowsTheEnd = IsEndedSender 1 (sender_of (end_view 1 ∷ close_view 1 ∷ []) false) → ⊥

-- there are two Ends
abbrev pub TheEndIsSentTwice : Type 0
TheEndIsSentTwice = IsEndedSender 1 (sender_of (end_view 1 ∷ end_view 1 ∷ []) false) → ⊥

-- the last message is another proxy's End
abbrev pub AnotherProxyEnds : Type 0
AnotherProxyEnds = IsEndedSender 1 (sender_of (end_view 0 ∷ []) false) → ⊥

-- no End was sent, since the worker's end is gone
abbrev pub TheWorkerIsGone : Type 0
TheWorkerIsGone = IsEndedSender 1 (sender_of (request_view 1 0 0 ∷ []) true)
