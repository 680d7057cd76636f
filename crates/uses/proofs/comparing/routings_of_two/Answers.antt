-- Both proxies have reached the version, so by the promise they agree at it.
use Rattle.std.proofs.Common.{sym, ap, ◌∙◌}
use Rattle.model.specs.Metadata.{Entries, routing}
use Rattle.uses.proofs.comparing.routings_of_two.Goals as goal

pub returns-clause-same : goal.returns-clause-same
returns-clause-same g c =
    let mine = c.in_ok-mine.ensures.shown in
    let theirs = c.in_ok-theirs.ensures.shown in
    let agreed = c.metadata_of_two.ensures.agree_at c.args.version mine.reached theirs.reached in
    mine.routing_is ∙ ap (λ (entries : Entries). routing c.args.version entries) agreed.metadata ∙ sym theirs.routing_is
