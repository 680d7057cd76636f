-- There is a mutation for each change, and with the changes put in they are those of the definition.
use Rattle.std.proofs.Common.{◌∙◌, sym}
use Rattle.model.specs.World.{tagged_all}
use Rattle.proxy_state.proofs.TakenChanges.{labels_have_room, labels_put}
use Rattle.proxy_state.proofs.outcomes.finished_by_columns.Goals as goal

pub put_changes-requires-clause-room : goal.put_changes-requires-clause-room
put_changes-requires-clause-room c =
    labels_have_room c.args.entries.now c.batch.result.now c.in_ok-batch.batch c.deref.result.now c.deref-2.result.now c.in_ok-tagged.tagged.items
    (c.batch.ensures ∙ sym c.in_ok-batch.ensures.ok) (c.deref.ensures.value ∙ sym c.deref-2.ensures.value) c.in_ok-tagged.ensures

pub returns-clause-ok : goal.returns-clause-ok
returns-clause-ok c =
    let put =
    labels_put c.args.entries.now c.batch.result.now c.in_ok-batch.batch c.deref.result.now c.deref-2.result.now c.in_ok-tagged.tagged.items c.put_changes.new.tagged.items
    (c.batch.ensures ∙ sym c.in_ok-batch.ensures.ok) (c.deref.ensures.value ∙ sym c.deref-2.ensures.value) c.in_ok-tagged.ensures c.put_changes.ensures in
    let results = c.deref-2.ensures.value ∙ c.in_ok-outcomes.ensures.value in
    let tagged = c.from-2.ensures ∙ put ∙ (λ i. tagged_all c.args.entries.now (c.in_ok-batch.ensures.ok i) (results i)) in
    let outcomes = c.from.ensures ∙ c.in_ok-outcomes.ensures.value in
    λ i. record { row = c.row-row.ensures i; version = c.version-version.ensures.value i; outcomes = outcomes i; tagged = tagged i }
