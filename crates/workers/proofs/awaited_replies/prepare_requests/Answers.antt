-- One message more, with the next request.
use Rattle.std.proofs.Common.{◌∙◌, ◌+◌, ◌++◌, [], ◌∷◌, List, length, length-append, sym, ap, arith}
use Rattle.std.proofs.lemmas.List.{take_all}
use Rattle.locked_resolvers.specs.Requests.{RequestView}
use Rattle.workers.proofs.AskLemmas.{take_next}
use Rattle.workers.proofs.DeskLemmas.{got}
use Rattle.workers.proofs.awaited_replies.prepare_requests.Goals as goal

pub loop-request-preserved : goal.loop-request-preserved
loop-request-preserved g c =
    let requests = c.args.requests.now in
    let k = c.loop-request.request-index in
    let q = c.request-item.result in
    let before = c.loop-request.messages.items in
    let at = got requests k q (omega arith) c.request-item.is in
    record {
      messages = c.in_ok-push.ensures.items
          ∙ ap (λ (m : RequestView). before ++ m ∷ []) (c.new.ensures ∙ c.in_ok-copy.ensures)
          ∙ ap (λ (ms : List RequestView). ms ++ q ∷ []) c.loop-request.invariant.messages
          ∙ sym (take_next requests k q at);
      waiting = ap (λ ws. length ws) c.in_ok-push-2.ensures.items ∙ length-append _ _ ∙ ap (λ n. n + 1) c.loop-request.invariant.waiting;
    }

pub returns-clause-messages : goal.returns-clause-messages
returns-clause-messages g c =
    let requests = c.args.requests.now in
    let k = c.loop-request.request-index in
    c.loop-request.invariant.messages ∙ take_all k requests (omega arith)
