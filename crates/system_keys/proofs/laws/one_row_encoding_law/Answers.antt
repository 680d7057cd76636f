use Rattle.system_keys.proofs.RowLaws.{servers_spelled, servers_again, servers_faults, tag_spelled}
use Rattle.system_keys.proofs.laws.one_row_encoding_law.Goals as goal

pub returns-clause-servers_spelled : goal.returns-clause-servers_spelled
returns-clause-servers_spelled c = servers_spelled

pub returns-clause-servers_round_trip : goal.returns-clause-servers_round_trip
returns-clause-servers_round_trip c = λ servers h. servers_again servers h.without_fault h.sources h.destinations

pub returns-clause-servers_faults : goal.returns-clause-servers_faults
returns-clause-servers_faults c = servers_faults

pub returns-clause-tag_spelled : goal.returns-clause-tag_spelled
returns-clause-tag_spelled c = tag_spelled
