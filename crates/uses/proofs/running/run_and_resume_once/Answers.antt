-- What two runs carried out is what one run would have.
use Rattle.std.proofs.Common.{◌≡◌, refl, ap, ◌∙◌, rules, ◌++◌, drop, length, arith, vec_len}
use Rattle.uses.proofs.StoppedRuns.{count_results, stopped_again}
use Rattle.uses.proofs.running.run_and_resume_once.Goals as goal

pub append_answers-requires : goal.append_answers-requires
append_answers-requires c =
    let count = count_results c.run.new.self c.run-2.new.self c.split_at.result.1.now c.in-Ok-run.more.items c.in-Ok-run.ensures.results in
    let room = c.in-Ok-reserve.ensures.ok in
    let len : vec_len c.in-Ok-run.more ≡ length c.in-Ok-run.more.items = search rules in
    omega (arith, count, room, len)

pub returns-in-Err-run : goal.returns-in-Err-run
returns-in-Err-run c =
    let rest : c.split_at.result.1.now ≡ drop c.in-Err.stopped.carried_out c.args.events.now = search rules in
    let both = c.append_answers-in-Err-run.ensures ∙ ap (λ xs. xs ++ c.in-Err-run.stopped.answers.items) c.reserve.ensures.items in
    stopped_again c.events_append_law.ensures.told c.events_append_law.ensures.world c.args.cluster.now c.run.new.self c.run-2.new.self
    c.args.events.now c.split_at.result.1.now c.in-Err.stopped c.in-Err-run.stopped _ rest refl both c.in-Err.ensures.results
    c.in-Err-run.ensures.results
