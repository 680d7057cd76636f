use Rattle.std.proofs.Common.{◌≡◌, ◌∙◌, ◌<◌, ℕ, ap, length, subst, sym, arith}
use Rattle.std.proofs.lemmas.Option.{slice_get_within}
use Rattle.once_cell.specs.Once.{cell_name}
use Rattle.facts.specs.Stretches.{Stretch, end_of}
use Rattle.facts.specs.Unsets.{IfTaken}
use Rattle.model.specs.Records.{Record}
use Rattle.agreed_ledger.specs.Cells.{IsKnownAt}
use Rattle.agreed_ledger.proofs.StretchLaws.{values_end}
use Rattle.agreed_ledger.proofs.records.Records.set.Goals as goal

pub set_next_and_copy-requires : goal.set_next_and_copy-requires
set_next_and_copy-requires g c =
    let cells = g.N.Naming.cells.records in
    let below : c.end-row.result < length cells = slice_get_within cells c.end-row.result (cell_name c.record_cell-cell.result.now) c.record_cell-cell.ensures in
    omega (arith, below, c.rows-rows.ensures.kept.rows.1, c.end-row.ensures.value)

pub returns-in-Err-clause-taken : goal.returns-in-Err-clause-taken
returns-in-Err-clause-taken g c =
    let row : c.end-row.result ≡ end_of c.args.self.now = c.end-row.ensures.value ∙ sym (values_end c.self.inside.stretch) ∙ ap (λ (s : Stretch Record). end_of s) c.self.view_is in
    subst (λ (n : ℕ). IfTaken c.from_not_set.result (IsKnownAt n)) row c.from_not_set.ensures.taken
