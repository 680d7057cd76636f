-- Each end of an inbox is of a resolver of the cluster, each proxy has its own inboxes, and each leaves its side.
use Rattle.std.proofs.Common.{◌∙◌, ℕ, List, ap, subst, sym, length, rules}
use Rattle.std.specs.Prelude.{string_bytes}
use Rattle.threads_lines.specs.Threads.{AreAnswerLines, AreInPlace}
use Rattle.threads_run.specs.Delivered.{AreEndedSides}
use Rattle.threads_run.proofs.EndsBelow.{ends_below}
use Rattle.threads_run.proofs.SidesInPlace.{sides_of}
use Rattle.threads_run.proofs.TextLemmas.{of_ok}
use Rattle.threads_run.proofs.text.answers_over_inboxes.Goals as goal

pub commit_over_workers-requires-clause-ends : goal.commit_over_workers-requires-clause-ends
commit_over_workers-requires-clause-ends g c κs within =
    ends_below g.N.Naming.cells.config.resolvers (length c.as_slice.result.now) c.named-senders.result.1.items c.named-senders.ensures.ends (ap length c.as_slice.ensures.value ∙ c.requires.resolvers)

pub invariant_of-serving : goal.invariant_of-serving
invariant_of-serving g c = record { in_place = subst (λ (numbers : List ℕ). AreInPlace numbers) (sym c.as_slice.ensures.value) c.args.cluster.now.resolvers_in_place }

pub invariant_of-running-clause-as_many : goal.invariant_of-running-clause-as_many
invariant_of-running-clause-as_many g c = c.in_ok-inboxes_of.ensures.count ∙ c.named-senders.ensures.senders.0 ∙ sym c.requires.proxies

pub invariant_of-running-clause-inboxes_in_place : goal.invariant_of-running-clause-inboxes_in_place
invariant_of-running-clause-inboxes_in_place g c = c.in_ok-inboxes_of.ensures.in_place c.named-senders.ensures.senders

pub returns-clause-lines : goal.returns-clause-lines
returns-clause-lines g c =
    let config = g.N.Naming.cells.config in
    let rows = length g.N.Naming.cells.records in
    let answered = c.in_ok-lines_unless_cut_off.field-0 in
    subst (λ (proxies : ℕ). AreAnswerLines config rows c.args.work.now proxies answered.history (string_bytes answered.text)) c.requires.proxies
    (of_ok c.in_ok-lines.field-0.lines answered (λ one. AreAnswerLines config rows c.args.work.now (length c.args.cluster.now.proxies.items) one.history (string_bytes one.text))
    c.in_ok-lines_unless_cut_off.ensures.answered c.in_ok-lines.ensures.lines)

pub returns-clause-sides : goal.returns-clause-sides
returns-clause-sides g c =
    let inboxes = c.in_ok-inboxes_of.field-0.items in
    sides_of c.in_ok-sides.sides.items inboxes g.N.Naming.cells.config.proxies
    (of_ok c.in_ok-lines.field-0.ended c.in_ok-sides.sides (λ sides. AreEndedSides inboxes sides.items) (search rules) c.in_ok-lines.ensures.ended)
    (c.in_ok-inboxes_of.ensures.count ∙ c.named-senders.ensures.senders.0) (c.in_ok-inboxes_of.ensures.in_place c.named-senders.ensures.senders)

pub returns-clause-workers : goal.returns-clause-workers
returns-clause-workers g c = c.in_ok-lines.ensures.workers ∙ c.named-senders.ensures.ends.0
