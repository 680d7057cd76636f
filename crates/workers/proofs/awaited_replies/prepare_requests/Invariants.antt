-- There is a message with each request so far, and an end for its answer.
use Rattle.std.proofs.Common.{◌≡◌, length, take}
use Rattle.workers.proofs.awaited_replies.prepare_requests.Given as goal

abbrev pub invariant-loop-request : goal.invariant-loop-request
invariant-loop-request g l = record {
  messages : l.messages.items ≡ take l.request-index l.requests;
  waiting : length l.waiting.items ≡ l.request-index;
}
