-- One more side is looked at.
use Rattle.std.proofs.Common.{◌≡◌, ◌∙◌, ◌+◌, ◌++◌, [], ◌∷◌, List, sym, ap, subst, length, append_assoc, refl, rules, arith}
use Rattle.std.specs.Prelude.{⊤, All, Result, Err, IfErr}
use Rattle.std.proofs.lemmas.List.{nil_from_length}
use Rattle.std.proofs.lemmas.List.Elements.{All-push}
use Rattle.std.specs.Vec.Iter.{into_iter_items}
use Rattle.inboxes.specs.Ends.{ProxyView}
use Rattle.threads_lines.specs.Faults.{FailsCheckOf}
use Rattle.threads_lines.specs.declared.faults.RunFault.{RunFault}
use Rattle.threads_run.specs.Delivered.{IsSideDelivered}
use Rattle.threads_run.proofs.DeliveryLemmas.{next_of_all, none_left, side_delivered, side_not_delivered}
use Rattle.threads_run.proofs.delivery.check_delivered.Goals as goal

pub loop-side-preserved : goal.loop-side-preserved
loop-side-preserved g c =
    let l = c.loop-side in
    let config = g.N.Naming.cells.config in
    let records = c.args.history.now.records in
    let workers = c.args.workers.items in
    let side = c.in-Some.side in
    let next = c.in-Some.ensures.steps.0 in
    let later = into_iter_items c.next.new.self in
    let size = ap (λ (ss : List ProxyView). length ss) next in
    record {
      left = append_assoc l.yielded (side ∷ []) later ∙ ap (λ (ss : List ProxyView). l.yielded ++ ss) (sym next) ∙ l.invariant.left;
      count = omega (arith, size, l.invariant.count, c.in-Some.ensures.steps.1);
      same = c.check.ensures.same ∙ l.invariant.same;
      delivered = All-push (IsSideDelivered config records workers) l.yielded side l.invariant.delivered
          (side_delivered config records workers l.workers.items side c.proxy.result c.count_records_of-messages.result (c.count_records_of-messages.result + 1)
          c.proxy.ensures c.count_records_of-messages.ensures.value refl l.invariant.same c.check.ensures.kept.senders c.in_ok-check.ensures.checked);
    }

pub returns-clause-checked : goal.returns-clause-checked
returns-clause-checked g c =
    let l = c.loop-side in
    let left = into_iter_items l.side-iterator in
    let none : left ≡ [] = nil_from_length left (sym l.invariant.count ∙ c.in-None.ensures.steps.0) in
    none_left (IsSideDelivered g.N.Naming.cells.config c.args.history.now.records c.args.workers.items) l.yielded left c.args.sides.items none l.invariant.left l.invariant.delivered

pub returns-in_err-check-clause-err : goal.returns-in_err-check-clause-err
returns-in_err-check-clause-err g c =
    let l = c.loop-side in
    let config = g.N.Naming.cells.config in
    let records = c.args.history.now.records in
    let workers = c.args.workers.items in
    let side = c.in-Some.side in
    let failed = c.in_err-check.ensures.err in
    let is : c.from_residual.result ≡ Err c.in_err-check.field-0.0 = search rules in
    subst (λ (r : Result ⊤ RunFault). IfErr r (FailsCheckOf (All (IsSideDelivered config records workers) c.args.sides.items))) (sym is) (
      failed.0,
      λ all. side_not_delivered config records workers l.workers.items side c.proxy.result c.count_records_of-messages.result (c.count_records_of-messages.result + 1)
          c.proxy.ensures c.count_records_of-messages.ensures.value refl l.invariant.same failed.1
          (next_of_all (IsSideDelivered config records workers) l.yielded side (into_iter_items l.side-iterator) (into_iter_items c.next.new.self) c.args.sides.items c.in-Some.ensures.steps.0 l.invariant.left all),
    )
