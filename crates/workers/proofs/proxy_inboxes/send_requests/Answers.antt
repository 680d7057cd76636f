-- One request more is sent.
use Rattle.std.proofs.Common.{◌≡◌, ◌∙◌, ◌++◌, [], ◌∷◌, List, sym, ap, subst, length, append-nil, append_assoc, arith}
use Rattle.std.proofs.lemmas.List.{nil_from_length}
use Rattle.std.specs.Vec.Iter.{into_iter_items}
use Rattle.locked_resolvers.specs.Requests.{RequestView}
use Rattle.workers.specs.Asking.{AreRequestsSent}
use Rattle.workers.proofs.AskLemmas.{sent_more}
use Rattle.workers.proofs.proxy_inboxes.send_requests.Goals as goal

pub loop-pending-preserved : goal.loop-pending-preserved
loop-pending-preserved g c =
    let l = c.loop-pending in
    let pending = c.in-Some.pending in
    let next = c.in-Some.ensures.steps.0 in
    let size = ap (λ (qs : List RequestView). length qs) next in
    record {
      sent = sent_more l.yielded pending c.args.senders.now l.senders c.send_request.new.senders l.invariant.sent c.send_request.ensures;
      left = append_assoc l.yielded (pending ∷ []) (into_iter_items c.next.new.self) ∙ ap (λ (qs : List RequestView). l.yielded ++ qs) (sym next) ∙ l.invariant.left;
      count = omega (arith, size, l.invariant.count, c.in-Some.ensures.steps.1);
    }

pub returns : goal.returns
returns g c =
    let l = c.loop-pending in
    let none : into_iter_items l.pending-iterator ≡ [] = nil_from_length (into_iter_items l.pending-iterator) (sym l.invariant.count ∙ c.in-None.ensures.steps.0) in
    let all : l.yielded ≡ c.args.messages.items = sym (append-nil l.yielded) ∙ ap (λ (qs : List RequestView). l.yielded ++ qs) (sym none) ∙ l.invariant.left in
    subst (λ (qs : List RequestView). AreRequestsSent qs c.args.senders.now l.senders) all l.invariant.sent
