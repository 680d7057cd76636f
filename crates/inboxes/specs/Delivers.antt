-- The rule of an inbox: what the worker took of a proxy, and then what is queued of it, is what the
-- proxy sent.
use Rattle.std.specs.Prelude.{◌≡◌, ℕ, ◌≤◌, true, List, [], ◌++◌, filter, ◌==◌, Option, Some, None}
use mathlib.Core.Option.{some}
use lib.ListN.{get_elem?}
use Rattle.inboxes.specs.declared.views.MessageView.{MessageView}
use Rattle.inboxes.specs.declared.views.View.{View}

-- the messages of one proxy among these, in their order
abbrev pub of_proxy : ℕ → List MessageView → List MessageView
of_proxy proxy messages = filter (λ m. m.proxy == proxy) messages

-- A pass that sends is the one pass of its proxy, by the seats, and knows all that its proxy sent.
abbrev pub KnowsSent : (ℕ → Option ℕ) → List MessageView → ℕ → View → Type 0
KnowsSent seat all pass v = v.sends ≡ true
    → (seat v.from ≡ Some pass) × (v.put ≡ of_proxy v.from all)

-- The pass that takes is the worker's, and knows all that was taken. The proxies for which no pass
-- was made have sent nothing; and of the pass that was joined last, it knows all that was sent.
abbrev pub KnowsTaken : ℕ → (ℕ → Option ℕ) → List MessageView → List MessageView → ℕ → View → Type 0
KnowsTaken reader seat got all pass v = v.gets ≡ true
    → (pass ≡ reader) × (v.got ≡ got)
    × ((proxy : ℕ) → v.made ≤ proxy → (seat proxy ≡ None) × (of_proxy proxy all ≡ []))
    × ((t : ℕ × List MessageView) → v.told ≡ Some t → (seat t.0 ≡ None) × (t.1 ≡ of_proxy t.0 all))

-- The rule, over the queue, oldest first, and the views of all passes: there are the number of the
-- worker's pass, for each proxy that of its pass, if it has one, and the messages taken. All that was
-- sent is what was taken and then what is queued, and each pass knows its part of it.
abbrev pub Delivers : List MessageView → List View → Type 0
Delivers items views =
    (reader : ℕ) × (seat : ℕ → Option ℕ) × (got : List MessageView)
    × ((pass : ℕ) (v : View) → get_elem? views pass ≡ some v
    → KnowsSent seat (got ++ items) pass v
    × KnowsTaken reader seat got (got ++ items) pass v)

-- The proxy whose pass was joined last, if any, sent what was taken of it, and then perhaps more.
abbrev pub IsToldMore : View → Type 0
IsToldMore v = (t : ℕ × List MessageView) → v.told ≡ Some t
    → (rest : List MessageView) × (t.1 ≡ of_proxy t.0 v.got ++ rest)

-- how many messages an inbox holds
abbrev pub inbox_limit : ℕ
inbox_limit = 64
