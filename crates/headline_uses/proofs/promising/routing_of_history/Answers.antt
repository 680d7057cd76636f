-- By the promise the metadata that the proxy shows at the version is that of the records up to it.
use Rattle.std.proofs.Common.{ap, ◌∙◌}
use Rattle.model.specs.Metadata.{Entries, routing}
use Rattle.headline_uses.proofs.promising.routing_of_history.Goals as goal

pub returns-clause-routing : goal.returns-clause-routing
returns-clause-routing g c =
    let shown = c.in_ok-noted.ensures.shown in
    shown.routing_is ∙ ap (λ (entries : Entries). routing c.args.version entries) (c.metadata_of_two.ensures.mine_is.metadata_at_is c.args.version shown.reached)
