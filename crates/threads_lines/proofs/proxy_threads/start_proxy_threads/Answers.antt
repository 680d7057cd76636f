-- One more thread is started, of the next proxy.
use Rattle.std.proofs.Common.{◌≡◌, ◌∙◌, ◌+◌, [], ◌∷◌, sym, ap, subst, refl, length, length-append, slice_get, Some, arith}
use Rattle.std.proofs.lemmas.Option.{slice_get_read}
use Rattle.threads_lines.specs.Threads.{AreInOrder}
use Rattle.threads_lines.proofs.ThreadLemmas.{one_more_thread}
use Rattle.threads_lines.proofs.proxy_threads.start_proxy_threads.Goals as goal

pub loop-number-preserved : goal.loop-number-preserved
loop-number-preserved g c =
    let l = c.loop-number in
    let work = c.args.work.now in
    let handle = c.in-Ok.handle in
    let grown = c.push_reserved.ensures.items in
    let more : length c.push_reserved.new.self.items ≡ length l.handles.items + 1 = ap length grown ∙ length-append l.handles.items (handle ∷ []) in
    let item = slice_get_read work (length work) l.number c.index-work-number.result refl c.loop-number-test.true c.index-work-number.is in
    let batches = c.in-Ok.ensures.batches ∙ c.as_slice-batches.ensures in
    record {
      count = more ∙ ap (λ n. n + 1) l.invariant.count;
      room = omega (arith, l.invariant.room, c.push_reserved.ensures.capacity);
      ordered = subst (λ threads. AreInOrder threads (λ thread. thread.promise.number) (λ thread. thread.promise.batches.now) work) (sym grown)
          (one_more_thread l.handles.items (λ thread. thread.promise.number) (λ thread. thread.promise.batches.now) work handle
          (c.in-Ok.ensures.number ∙ sym l.invariant.count)
          (ap (slice_get work) l.invariant.count ∙ item ∙ ap Some (sym batches)) l.invariant.ordered);
    }
