-- Edge cases of the definition of an ended worker: what meets it, and what does not in one point.
use Rattle.std.specs.Prelude.{List, [], ◌∷◌, true, false}
use Rattle.model.specs.Agreed.{Column}
use Rattle.inboxes.specs.declared.views.MessageView.{MessageView}
use Rattle.inboxes.specs.MessageViews.{close_view, end_view, request_view}
use Rattle.workers.specs.Workers.{EndedView, HasServed, IsEnded}

-- the worker of resolver 0 that took these messages, with these verdict cells, open and not cut off
abbrev pub ended_with : List MessageView → Column → EndedView
ended_with messages cells =
    record {
      taken = record { resolver = 0; got = messages };
      column = record { resolver = 0; rows = record { first = 0; known = cells } };
      closed = false;
      wanted = false;
      cut_off = false;
    }

-- two proxies ask for rows 1 and 0, and end
abbrev pub two_asked : List MessageView
two_asked = request_view 1 0 1 ∷ request_view 0 0 0 ∷ end_view 0 ∷ end_view 1 ∷ []

-- two proxies end
abbrev pub two_ends : List MessageView
two_ends = end_view 0 ∷ end_view 1 ∷ []

-- both rows were judged
abbrev pub AWorkerThatServedAll : Type 0
AWorkerThatServedAll = IsEnded 2 (ended_with two_asked ([] ∷ [] ∷ []))

-- row 1 was not judged, though its turn came
abbrev pub ARowWasDropped : Type 0
ARowWasDropped = HasServed (ended_with two_asked ([] ∷ [])) → ⊥

-- nobody asked for row 0, so the turn of row 1 did not come
abbrev pub ATurnThatDidNotCome : Type 0
ATurnThatDidNotCome = IsEnded 2 (ended_with (request_view 1 0 1 ∷ two_ends) [])

-- one End is missing, and the worker is cut off
abbrev pub AWorkerThatWasCutOff : Type 0
AWorkerThatWasCutOff = IsEnded 2 (record (ended_with (end_view 0 ∷ []) []) { cut_off = true })

-- one End is missing, though the worker is not cut off
abbrev pub AnEndIsMissing : Type 0
AnEndIsMissing = IsEnded 2 (ended_with (end_view 0 ∷ []) []) → ⊥

-- a Close was taken, and the worker is closed
abbrev pub ACloseWasObeyed : Type 0
ACloseWasObeyed = IsEnded 2 (record (ended_with (close_view 0 ∷ two_ends) []) { closed = true })

-- a Close was taken, and the worker is open
abbrev pub ACloseWasIgnored : Type 0
ACloseWasIgnored = IsEnded 2 (ended_with (close_view 0 ∷ two_ends) []) → ⊥

-- the worker is closed, though it took neither a Close nor a request
abbrev pub AWorkerThatClosedItself : Type 0
AWorkerThatClosedItself = IsEnded 2 (record (ended_with two_ends []) { closed = true }) → ⊥

-- the worker was refused memory, though it took no request to its resolver
abbrev pub AWorkerThatWantedMemory : Type 0
AWorkerThatWantedMemory =
    IsEnded 2 (record (ended_with (request_view 0 1 0 ∷ two_ends) []) { wanted = true }) → ⊥
