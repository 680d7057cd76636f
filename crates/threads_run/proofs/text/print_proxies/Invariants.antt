-- The lines so far are those of the proxies so far.
use Rattle.std.specs.Prelude.{string_bytes}
use Rattle.threads_lines.specs.Parts.{GrowsBy, IsInParts}
use Rattle.threads_run.specs.Text.{IsProxyText}
use Rattle.threads_run.proofs.text.print_proxies.Given as goal

abbrev pub invariant-loop-number : goal.invariant-loop-number
invariant-loop-number g l = GrowsBy (IsInParts (IsProxyText l.keys l.proxies) l.number) (string_bytes l.fn.text) (string_bytes l.text)
