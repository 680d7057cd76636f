-- From flags for a state transaction, or from none, the resolvers that are flagged in the end are those that get a part.
use Rattle.std.proofs.Common.{◌∙◌}
use Rattle.request_builder.proofs.FlaggedLists.{asked_flagged}
use Rattle.request_builder.proofs.asked_resolvers.resolvers_asked_by.Goals as goal

pub returns : goal.returns
returns c = c.flagged.ensures.set ∙ asked_flagged c.args.asking.now c.args.owners.now.resolvers c.all-flags.result c.flag_asked.new.flags c.flagged.ensures.few c.all-flags.ensures c.flag_asked.ensures
