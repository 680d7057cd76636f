-- One more thread is joined.
use Rattle.std.proofs.Common.{◌≡◌, ◌∙◌, ◌+◌, [], ◌∷◌, ℕ, List, sym, ap, subst, length, length-append, drop, arith}
use Rattle.std.specs.Prelude.{string_bytes}
use Rattle.std.specs.Vec.Iter.{into_iter_items}
use Rattle.model.specs.Stamps.{AdmittedTransaction}
use Rattle.threads_lines.specs.Answers.{AreBatchLines}
use Rattle.threads_lines.specs.Threads.{KeepPromises}
use Rattle.threads_lines.specs.declared.committer.AnsweredLines.{AnsweredLines}
use Rattle.threads_lines.proofs.ThreadLemmas.{drop_next, one_more_joined}
use Rattle.threads_lines.proofs.proxy_threads.join_proxy_threads.Goals as goal

pub loop-handle-preserved : goal.loop-handle-preserved
loop-handle-preserved g c =
    let Keeps = λ (p : ℕ) (batches : List (List AdmittedTransaction)) (answered : AnsweredLines g.row.N.Denot). AreBatchLines g.N.Naming.cells.config (length g.N.Naming.cells.records) p batches answered.history (string_bytes answered.text) in
    let l = c.loop-handle in
    let k = length l.returned.items in
    let threads = c.args.handles.items in
    let thread = c.in-Some.handle in
    let next = c.in-Some.ensures.steps.0 in
    let size = ap length next in
    let grown = c.push_reserved.ensures.items in
    let (at, later) = drop_next threads k thread (into_iter_items c.next.new.self) (sym l.invariant.left ∙ next) in
    let more : length c.push_reserved.new.self.items ≡ k + 1 = ap length grown ∙ length-append l.returned.items (c.join.result ∷ []) in
    record {
      left = sym later ∙ ap (λ (n : ℕ). drop n threads) (sym more);
      all = omega (arith, size, more, l.invariant.all);
      count = omega (arith, size, l.invariant.count, c.in-Some.ensures.steps.1);
      room = omega (arith, l.invariant.room, c.push_reserved.ensures.capacity);
      kept = subst (λ rs. KeepPromises Keeps threads (λ t. t.promise.number) (λ t. t.promise.batches.now) rs) (sym grown)
          (one_more_joined Keeps threads (λ t. t.promise.number) (λ t. t.promise.batches.now) l.returned.items thread c.join.result at c.join.ensures l.invariant.kept);
    }
