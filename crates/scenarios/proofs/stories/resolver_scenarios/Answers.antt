use Rattle.scenarios.proofs.stories.resolver_scenarios.Goals as goal
use Rattle.scenarios.proofs.Scenarios.{requests_of_strangers}

pub returns : goal.returns
returns c = requests_of_strangers
