use Rattle.std.proofs.Common.{ap, ◌∙◌, List}
use Rattle.facts.specs.Stretches.{Stretch, part_of, values_of}
use Rattle.model.specs.declared.verdict.Verdict.{Verdict}
use Rattle.agreed_ledger.specs.Cells.{ColumnView}
use Rattle.agreed_ledger.proofs.StretchLaws.{values_part}
use Rattle.agreed_ledger.proofs.column.Column.part.Goals as goal

pub returns : goal.returns
returns g c =
    ap (λ (rows : Stretch (List Verdict)). record { resolver = c.self.inside.resolver; rows = rows }) (ap values_of c.in_ok-part.ensures ∙ values_part c.args.start c.args.end c.self.inside.stretch)
    ∙ ap (λ (v : ColumnView). record { resolver = v.resolver; rows = part_of c.args.start c.args.end v.rows }) c.self.view_is
