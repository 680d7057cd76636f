-- The request keeps what every request keeps.
use Rattle.std.proofs.Common.{List, ap, ◌∙◌}
use Rattle.model.specs.Transactions.{StampedTransaction}
use Rattle.request_builder.specs.AskedResolvers.{parts_for, marks_for}
use Rattle.request_builder.proofs.KeptRule.{request_kept}
use Rattle.request_builder.proofs.building.request_for_resolver.Goals as goal

pub of_parts-requires : goal.of_parts-requires
of_parts-requires c =
    request_kept _ c.args.rec.now.batch c.args.askings.now
    (c.new-share.ensures ∙ c.from.ensures ∙ c.in_ok-parts.ensures ∙ ap (λ (batch : List StampedTransaction). parts_for c.args.resolver 0 batch c.args.askings.now) c.batch.ensures)
    (c.from-2.ensures ∙ c.in_ok-marks.ensures ∙ ap (λ (batch : List StampedTransaction). marks_for c.args.resolver 0 batch c.args.askings.now) c.batch-2.ensures)
