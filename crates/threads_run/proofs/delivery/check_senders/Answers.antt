-- One more end is looked at.
use Rattle.std.proofs.Common.{◌≡◌, ◌∙◌, ◌+◌, ◌++◌, [], ◌∷◌, List, sym, ap, subst, length, append_assoc, rules, arith}
use Rattle.std.specs.Prelude.{⊤, All, Result, Err, IfErr}
use Rattle.std.proofs.lemmas.List.{nil_from_length}
use Rattle.std.proofs.lemmas.List.Elements.{All-push}
use Rattle.std.specs.Vec.Iter.{into_iter_items}
use Rattle.inboxes.specs.Ends.{SenderView}
use Rattle.workers.specs.Workers.{EndedView}
use Rattle.threads_lines.specs.Faults.{FailsCheckOf}
use Rattle.threads_lines.specs.declared.faults.RunFault.{RunFault}
use Rattle.threads_run.specs.Delivered.{IsDelivered}
use Rattle.threads_run.proofs.DeliveryLemmas.{next_of_all, none_left}
use Rattle.threads_run.proofs.delivery.check_senders.Goals as goal

pub loop-sender-preserved : goal.loop-sender-preserved
loop-sender-preserved g c =
    let l = c.loop-sender in
    let workers = c.args.workers.now.items in
    let sender = c.in-Some.sender in
    let next = c.in-Some.ensures.steps.0 in
    let later = into_iter_items c.next.new.self in
    let size = ap (λ (ss : List SenderView). length ss) next in
    record {
      left = append_assoc l.yielded (sender ∷ []) later ∙ ap (λ (ss : List SenderView). l.yielded ++ ss) (sym next) ∙ l.invariant.left;
      count = omega (arith, size, l.invariant.count, c.in-Some.ensures.steps.1);
      same = c.check_sender.ensures.same ∙ l.invariant.same;
      delivered = All-push (IsDelivered c.args.messages workers) l.yielded sender l.invariant.delivered
          (subst (λ (ws : List EndedView). IsDelivered c.args.messages ws sender) l.invariant.same c.in_ok-check_sender.ensures.checked);
    }

pub returns-clause-checked : goal.returns-clause-checked
returns-clause-checked g c =
    let l = c.loop-sender in
    let left = into_iter_items l.sender-iterator in
    let none : left ≡ [] = nil_from_length left (sym l.invariant.count ∙ c.in-None.ensures.steps.0) in
    none_left (IsDelivered c.args.messages c.args.workers.now.items) l.yielded left c.args.senders.items none l.invariant.left l.invariant.delivered

pub returns-in_err-check_sender-clause-err : goal.returns-in_err-check_sender-clause-err
returns-in_err-check_sender-clause-err g c =
    let l = c.loop-sender in
    let workers = c.args.workers.now.items in
    let sender = c.in-Some.sender in
    let failed = c.in_err-check_sender.ensures.err in
    let is : c.from_residual.result ≡ Err c.in_err-check_sender.field-0.0 = search rules in
    subst (λ (r : Result ⊤ RunFault). IfErr r (FailsCheckOf (All (IsDelivered c.args.messages workers) c.args.senders.items))) (sym is) (
      failed.0,
      λ all. failed.1 (subst (λ (ws : List EndedView). IsDelivered c.args.messages ws sender) (sym l.invariant.same)
          (next_of_all (IsDelivered c.args.messages workers) l.yielded sender (into_iter_items l.sender-iterator) (into_iter_items c.next.new.self) c.args.senders.items c.in-Some.ensures.steps.0 l.invariant.left all)),
    )
