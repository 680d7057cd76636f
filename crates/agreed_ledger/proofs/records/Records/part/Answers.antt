use Rattle.std.proofs.Common.{ap, ◌∙◌}
use Rattle.facts.specs.Stretches.{part_of, values_of}
use Rattle.agreed_ledger.proofs.StretchLaws.{values_part}
use Rattle.agreed_ledger.proofs.records.Records.part.Goals as goal

pub returns : goal.returns
returns g c =
    ap values_of c.in_ok-part.ensures ∙ values_part c.args.start c.args.end c.self.inside.stretch ∙ ap (part_of c.args.start c.args.end) c.self.view_is
