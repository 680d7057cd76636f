use Rattle.std.proofs.Common.{ap, ◌∙◌}
use Rattle.facts.specs.Stretches.{Stretch, extended, values_of}
use Rattle.model.specs.Records.{Record}
use Rattle.agreed_ledger.proofs.StretchLaws.{values_extended}
use Rattle.agreed_ledger.proofs.records.Records.extend_from.Goals as goal

pub returns : goal.returns
returns g c =
    let other = values_of c.other.inside.stretch in
    ap values_of c.in-Ok.ensures ∙ values_extended c.self.inside.stretch c.other.inside.stretch
    ∙ ap (λ (s : Stretch Record). extended s other) c.self.view_is ∙ ap (extended c.args.self.now) c.other.view_is
