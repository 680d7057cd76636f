-- The walk stops at a row that is not above the version.
use Rattle.std.proofs.Common.{◌-◌, ◌+◌, arith}
use Rattle.state_memory.proofs.KeptLaws.{stops_at}
use Rattle.state_memory.proofs.rows.first_row_above.Goals as goal

pub returns-then-index-version-clause-rows : goal.returns-then-index-version-clause-rows
returns-then-index-version-clause-rows c =
    stops_at c.args.version c.args.rows.now.items (c.loop-i.i - 1) c.loop-i.i (c.loop-i.i - 1 + 1) c.index.result.now (omega arith) (omega arith) c.requires (omega arith) c.index.ensures (omega (arith, c.if-index-version.true)) c.loop-i.invariant
