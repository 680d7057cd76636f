use Rattle.std.proofs.Common.{arith}
use Rattle.system_keys.proofs.RowLaws.{read_both}
use Rattle.system_keys.proofs.server_rows.to_teams.Goals as goal

pub from_valid-requires : goal.from_valid-requires
from_valid-requires c = (read_both c.args.bytes.now _ _ _ _ (λ i. omega (arith, c.type_inv.bytes i)) c.in_ok-sources.ensures c.in_ok-destinations.ensures c.requires).team

pub returns-clause-spelled : goal.returns-clause-spelled
returns-clause-spelled c = rw (c.from_valid.ensures) (read_both c.args.bytes.now _ _ _ _ (λ i. omega (arith, c.type_inv.bytes i)) c.in_ok-sources.ensures c.in_ok-destinations.ensures c.requires).spelled
