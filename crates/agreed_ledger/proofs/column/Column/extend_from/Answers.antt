use Rattle.std.proofs.Common.{ap, ◌∙◌, List}
use Rattle.facts.specs.Stretches.{Stretch, extended, values_of}
use Rattle.model.specs.declared.verdict.Verdict.{Verdict}
use Rattle.agreed_ledger.specs.Cells.{ColumnView}
use Rattle.agreed_ledger.proofs.StretchLaws.{values_extended}
use Rattle.agreed_ledger.proofs.column.Column.extend_from.Goals as goal

pub returns : goal.returns
returns g c =
    let other = values_of c.other.inside.stretch in
    ap (λ (rows : Stretch (List Verdict)). record { resolver = c.self.inside.resolver; rows = rows }) (ap values_of c.in-Ok.ensures ∙ values_extended c.self.inside.stretch c.other.inside.stretch)
    ∙ ap (λ (v : ColumnView). record { resolver = v.resolver; rows = extended v.rows other }) c.self.view_is
    ∙ ap (λ (v : ColumnView). record { resolver = c.args.self.now.resolver; rows = extended c.args.self.now.rows v.rows }) c.other.view_is
