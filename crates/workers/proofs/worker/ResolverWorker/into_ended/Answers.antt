-- What it served, it has judged.
use Rattle.std.proofs.Common.{◌≡◌, refl, sym, ap, ◌∙◌, subst, ◌||◌, ◌⊎◌}
use Rattle.std.specs.Prelude.{IsTrue}
use Rattle.workers.specs.Desks.{DeskView}
use Rattle.workers.specs.Workers.{EndedView, WorkerView}
use Rattle.workers.proofs.WorkerLemmas.{worker_ended}
use Rattle.workers.proofs.worker.ResolverWorker.into_ended.Goals as goal

pub of-requires : goal.of-requires
of-requires g c =
    let parts = c.into_parts-column.result in
    let told = c.into_parts-column.ensures in
    let inside = c.self.inside in
    let worker : WorkerView = record { taken = inside.end; desk = inside.desk; proxies_left = inside.proxies_left; cut_off = inside.cut_off } in
    let ended : EndedView = record { taken = c.into_pass.result; column = parts.0; closed = parts.1; wanted = parts.2; cut_off = inside.cut_off } in
    let why = subst (λ (v : WorkerView). (v.proxies_left ≡ 0) ⊎ IsTrue v.cut_off) (sym c.self.view_is) c.requires in
    worker_ended inside.shared.now g.N.Naming.cells.config.proxies worker ended c.self.invariant c.into_pass.ensures (told.column ∙ c.end.ensures.desk.column)
    (λ sound. c.end.ensures.desk.failed (sym (λ i. told.closed i || told.wanted i) ∙ sound)) (λ none. told.wanted ∙ ap (λ (v : DeskView). v.wanted) (c.end.ensures.desk.same none))
    (told.closed ∙ c.end.ensures.desk.closed) refl why
