-- It is that of the records so far.
use Rattle.std.proofs.Common.{◌≡◌, take}
use Rattle.model.specs.Records.{last_version, records_of_proxy}
use Rattle.threads_lines.proofs.checks.last_version_of.Given as goal

abbrev pub invariant-loop-row : goal.invariant-loop-row
invariant-loop-row g l = l.version ≡ last_version (records_of_proxy l.proxy (take l.row l.history.records))
