use Rattle.endings.proofs.Scenarios.{one_round_is_enough, rounds_in_reverse_take_one_more_than_rows}
use Rattle.endings.proofs.stories.rounds_needed_scenarios.Goals as goal

pub returns : goal.returns
returns c = record { one = one_round_is_enough; reverse = rounds_in_reverse_take_one_more_than_rows }
