use Rattle.std.proofs.Common.{length}
use Rattle.pages.proofs.Prints.{Leaves}
use Rattle.system_keys.specs.Text.{text_of}
use Rattle.scripts.proofs.line_pieces.push_bytes.Given as goal

abbrev pub invariant-loop-rest : goal.invariant-loop-rest
invariant-loop-rest g l = Leaves g.P.Page.has_printed l.fn.page l.page (text_of l.rest) (text_of l.bytes)

abbrev pub decreases-loop-rest : goal.decreases-loop-rest
decreases-loop-rest g l = length l.rest
