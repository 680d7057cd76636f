use Rattle.system_keys.proofs.FaultLaws.{first_fault, servers_fault_alone}
use Rattle.system_keys.proofs.LocationLaws.{location_spelled, location_again, values_apart, servers_alone, location_faults}
use Rattle.system_keys.proofs.laws.one_location_encoding_law.Goals as goal

pub returns-clause-spelled : goal.returns-clause-spelled
returns-clause-spelled c = location_spelled

pub returns-clause-round_trip : goal.returns-clause-round_trip
returns-clause-round_trip c = location_again

pub returns-clause-apart : goal.returns-clause-apart
returns-clause-apart c = values_apart

pub returns-clause-servers : goal.returns-clause-servers
returns-clause-servers c = servers_alone

pub returns-clause-faults : goal.returns-clause-faults
returns-clause-faults c = location_faults

pub returns-clause-servers_faults : goal.returns-clause-servers_faults
returns-clause-servers_faults c = servers_fault_alone

pub returns-clause-first : goal.returns-clause-first
returns-clause-first c = first_fault
