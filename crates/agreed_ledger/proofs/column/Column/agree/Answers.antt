use Rattle.std.proofs.Common.{◌≡◌, ap, ◌∙◌, sym, subst, ℕ}
use Rattle.agreed_ledger.specs.Cells.{ColumnView, AreAbout, verdict_cells}
use Rattle.agreed_ledger.proofs.StretchLaws.{about_agree}
use Rattle.agreed_ledger.proofs.column.Column.agree.Goals as goal

pub agree-requires : goal.agree-requires
agree-requires g c =
    let cells = g.N.Naming.cells in
    let same : c.other.inside.resolver ≡ c.self.inside.resolver = ap (λ (v : ColumnView). v.resolver) c.other.view_is ∙ sym c.requires ∙ ap (λ (v : ColumnView). v.resolver) (sym c.self.view_is) in
    about_agree (verdict_cells cells c.self.inside.resolver) c.self.inside.stretch c.other.inside.stretch c.self.invariant
    (subst (λ (r : ℕ). AreAbout (verdict_cells cells r) c.other.inside.stretch) same c.other.invariant)
