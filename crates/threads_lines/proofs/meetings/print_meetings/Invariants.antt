-- The lines so far are those of the proxies so far.
use Rattle.std.proofs.Common.{◌+◌, ◌-◌, length}
use Rattle.std.specs.Prelude.{string_bytes}
use Rattle.threads_lines.specs.Meetings.{AreMeetingLines}
use Rattle.threads_lines.specs.Parts.{GrowsBy, IsInParts}
use Rattle.threads_lines.proofs.meetings.print_meetings.Given as goal

abbrev pub invariant-loop-one : goal.invariant-loop-one
invariant-loop-one g l = GrowsBy (IsInParts (λ one. AreMeetingLines l.proxies one (length l.proxies - (one + 1))) l.one) (string_bytes l.fn.text) (string_bytes l.text)
