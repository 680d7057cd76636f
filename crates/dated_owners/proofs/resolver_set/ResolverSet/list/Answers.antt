-- Those that are flagged are those of the set.
use Rattle.std.proofs.Common.{◌∙◌}
use Rattle.std.proofs.lemmas.Result.{IfOk-weaker}
use Rattle.dated_owners.proofs.resolver_set.ResolverSet.list.Goals as goal

pub returns : goal.returns
returns c = IfOk-weaker c.list.result _ _ (λ list is. is ∙ c.self.view_is) c.list.ensures
