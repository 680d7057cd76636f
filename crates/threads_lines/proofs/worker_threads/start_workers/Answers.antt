-- One more thread is started, of the first end that was left.
use Rattle.std.proofs.Common.{◌≡◌, ◌∙◌, ◌+◌, [], ◌∷◌, ap, length, length-append, arith}
use Rattle.std.specs.Vec.Iter.{into_iter_items}
use Rattle.std.proofs.lemmas.List.Elements.{All-rest}
use Rattle.threads_lines.proofs.worker_threads.start_workers.Goals as goal

pub loop-end-preserved : goal.loop-end-preserved
loop-end-preserved g c =
    let l = c.loop-end in
    let next = c.in-Some.ensures.steps.0 in
    let size = ap length next in
    let more : length c.push_reserved.new.self.items ≡ length l.handles.items + 1 = ap length c.push_reserved.ensures.items ∙ length-append l.handles.items (c.in-Ok-start_worker.handle ∷ []) in
    record {
      all = omega (arith, size, more, l.invariant.all);
      room = omega (arith, l.invariant.room, c.push_reserved.ensures.capacity);
      count = omega (arith, size, l.invariant.count, c.in-Some.ensures.steps.1);
      resolvers = All-rest (g.S.ServesInbox.can_serve c.args.serving.now) c.in-Some.end (into_iter_items c.next.new.self) (into_iter_items l.end-iterator) next l.invariant.resolvers;
    }
