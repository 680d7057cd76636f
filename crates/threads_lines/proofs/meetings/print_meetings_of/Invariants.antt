-- The lines so far are those with the proxies so far.
use Rattle.std.proofs.Common.{◌+◌, ◌-◌, ◌≤◌}
use Rattle.std.specs.Prelude.{string_bytes}
use Rattle.threads_lines.specs.Meetings.{AreMeetingLines}
use Rattle.threads_lines.specs.Parts.{GrowsBy}
use Rattle.threads_lines.proofs.meetings.print_meetings_of.Given as goal

abbrev pub invariant-loop-other : goal.invariant-loop-other
invariant-loop-other g l = record {
  above : l.one + 1 ≤ l.other;
  lines : GrowsBy (AreMeetingLines l.proxies l.one (l.other - (l.one + 1))) (string_bytes l.fn.text) (string_bytes l.text);
}
