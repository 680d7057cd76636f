use Rattle.scenarios.proofs.stories.proxy_scenarios.Goals as goal
use Rattle.scenarios.proofs.Scenarios.{a_proxy_that_is_behind}

pub returns : goal.returns
returns c = a_proxy_that_is_behind
