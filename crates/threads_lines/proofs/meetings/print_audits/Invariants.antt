-- The lines so far are those of the proxies so far.
use Rattle.std.specs.Prelude.{string_bytes}
use Rattle.threads_lines.specs.Meetings.{IsAuditLine}
use Rattle.threads_lines.specs.Parts.{GrowsBy, IsInParts}
use Rattle.threads_lines.proofs.meetings.print_audits.Given as goal

abbrev pub invariant-loop-number : goal.invariant-loop-number
invariant-loop-number g l = GrowsBy (IsInParts (IsAuditLine g.N.Naming.cells.config l.proxies l.resolvers) l.number) (string_bytes l.fn.text) (string_bytes l.text)
