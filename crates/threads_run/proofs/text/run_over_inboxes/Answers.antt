-- All lines are of one history and of one state.
use Rattle.std.proofs.Common.{◌+◌, ◌<◌, ◌≤◌, List, length, subst, rules}
use Rattle.std.specs.Prelude.{All, string_bytes}
use Rattle.facts.specs.Stretches.{Stretch, end_of}
use Rattle.model.specs.Records.{Record}
use Rattle.locked_cluster.specs.Proxies.{LockedProxyView}
use Rattle.locked_resolvers.specs.Resolvers.{LockedResolverView}
use Rattle.threads_lines.specs.Histories.{HasFinishedAll, HasJudgedAll}
use Rattle.threads_lines.specs.Moves.{AreAfterMoves}
use Rattle.threads_scripts.specs.declared.script.UndatedMove.{UndatedMove}
use Rattle.threads_run.specs.Delivered.{GoesByInboxes}
use Rattle.threads_run.proofs.TextLemmas.{fits_rows, text_so, threads_text}
use Rattle.threads_run.proofs.text.run_over_inboxes.Goals as goal

pub of-requires-clause-sides : goal.of-requires-clause-sides
of-requires-clause-sides g c = c.in_ok-run.ensures.sides.0

pub of-requires-clause-in_order : goal.of-requires-clause-in_order
of-requires-clause-in_order g c = c.in_ok-run.ensures.sides.1

pub of-requires-clause-workers : goal.of-requires-clause-workers
of-requires-clause-workers g c = c.in_ok-run.ensures.workers

pub returns : goal.returns
returns g c =
    let config = g.N.Naming.cells.config in
    let rows = length g.N.Naming.cells.records in
    let run = c.in_ok-run.run' in
    let all = c.learn_from_resolvers.new.self in
    let sides = run.sides.items in
    let workers = run.workers.items in
    let within : 0 < length all.records → 0 + length all.records ≤ rows = subst (λ (s : Stretch Record). 0 < length s.known → end_of s ≤ rows) c.records.ensures.value c.end-end.ensures.within in
    text_so c.of.result c.args.script.now (GoesByInboxes config all.records sides workers) all.records (string_bytes c.print_audits.new.text) c.of.ensures.run c.of.ensures.delivered
    (λ by_inboxes. threads_text c.args.script.now config rows run.lines.history c.learn_from_proxies.new.self all
    c.in_ok-proxies.proxies.items c.in_ok-resolvers.resolvers.items (string_bytes run.lines.text) (string_bytes c.print_proxies.new.text) (string_bytes c.print_meetings.new.text) (string_bytes c.print_audits.new.text)
    c.requires.config c.requires.rows c.learn_from_proxies.ensures.kept c.learn_from_proxies.ensures.counted c.learn_from_resolvers.ensures.kept c.learn_from_resolvers.ensures.counted
    c.records.ensures.kept (fits_rows (length all.records) rows within) (subst (λ (ms : List UndatedMove). AreAfterMoves ms all.records) c.as_slice-5.ensures c.in_ok-check_moves.ensures.checked) c.in_ok-check_answered.ensures.checked
    (search rules) (search rules) (search rules) c.in_ok-proxies.ensures c.in_ok-resolvers.ensures
    (subst (λ (vs : List LockedProxyView). All (HasFinishedAll all.records) vs) c.as_slice-3.ensures.value c.in_ok-check_proxies.ensures.checked)
    (subst (λ (ws : List LockedResolverView). All (HasJudgedAll all.records) ws) c.as_slice-4.ensures.value
    c.in_ok-check_resolvers.ensures.checked)
    (sides, workers, by_inboxes)
    (search rules) (search rules) (search rules))
