-- The views that a pass may have.
use Rattle.std.specs.Prelude.{ℕ, true, false, List, [], Option, None}
use Rattle.inboxes.specs.declared.views.MessageView.{MessageView}
use Rattle.inboxes.specs.declared.views.View.{View}

-- the pass of a proxy that sent these messages
abbrev pub sender : ℕ → List MessageView → View
sender proxy put = record {
  sends = true;
  from = proxy;
  put = put;
  gets = false;
  got = [];
  made = 0;
  told = None;
}

-- The worker's pass: it took these messages, passes were made for this number of proxies, and it was told
-- this of the proxy whose pass was joined last.
abbrev pub worker : ℕ → List MessageView → Option (ℕ × List MessageView) → View
worker made got told = record {
  sends = false;
  from = 0;
  put = [];
  gets = true;
  got = got;
  made = made;
  told = told;
}

-- a pass that was joined to another
abbrev pub spent : View
spent = record {
  sends = false;
  from = 0;
  put = [];
  gets = false;
  got = [];
  made = 0;
  told = None;
}
