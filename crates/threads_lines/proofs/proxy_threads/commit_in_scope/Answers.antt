-- What the threads promise is what the proxies are answered.
use Rattle.std.specs.Prelude.{length, string_bytes}
use Rattle.threads_lines.proofs.ThreadLemmas.{answered_proxies}
use Rattle.threads_lines.proofs.proxy_threads.commit_in_scope.Goals as goal

pub returns : goal.returns
returns g c =
    answered_proxies g.N.Naming.cells.config (length g.N.Naming.cells.records) c.in_ok-handles.handles.items (λ thread. thread.promise.number)
    (λ thread. thread.promise.batches.now) c.args.work.now c.join_proxy_threads.result.items c.join_answers.result
    (λ answered. string_bytes answered.text) (λ answered. answered.history)
    c.in_ok-handles.ensures.ordered c.in_ok-handles.ensures.count c.join_proxy_threads.ensures.count c.join_proxy_threads.ensures.kept c.join_answers.ensures.joined
