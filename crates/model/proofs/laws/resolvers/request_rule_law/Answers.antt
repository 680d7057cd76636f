use Rattle.model.proofs.Resolvers.RequestRules.{requests_keep_the_rule, later_parts_have_greater_numbers}
use Rattle.model.proofs.laws.resolvers.request_rule_law.Goals as goal

pub returns : goal.returns
returns c = record { kept = requests_keep_the_rule; numbers = later_parts_have_greater_numbers }
