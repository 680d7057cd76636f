-- By the promise the answer has the tags that the metadata of the proxy gives its change.
use Rattle.std.proofs.Common.{sym, ap, ◌∙◌}
use Rattle.system_keys.specs.declared.change.Change.{Change}
use Rattle.model.specs.Metadata.{Entries, tags}
use Rattle.headline_uses.proofs.answering.tags_by_proxy.Goals as goal

pub returns-clause-known : goal.returns-clause-known
returns-clause-known g c = c.in_ok-found.ensures ∙ ap (λ (entries : Entries). tags entries c.args.change.now) c.metadata_of_two.ensures.mine_is.metadata_is

pub returns-clause-answered : goal.returns-clause-answered
returns-clause-answered g c = λ same sent there is.
    (c.metadata_of_two.ensures.mine_meets.tags_are same sent there).tags ∙ ap (λ (change : Change). tags c.metadata_of_two.result.0.now change) is ∙ sym c.in_ok-found.ensures
