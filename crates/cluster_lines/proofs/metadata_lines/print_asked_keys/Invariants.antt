use Rattle.std.proofs.Common.{drop}
use Rattle.pages.proofs.Prints.{Leaves}
use Rattle.scripts.specs.Lines.{asked_text}
use Rattle.cluster_lines.proofs.metadata_lines.print_asked_keys.Given as goal

abbrev pub invariant-loop-key : goal.invariant-loop-key
invariant-loop-key g l =
    Leaves g.P.Page.has_printed l.fn.page l.page (asked_text l.metadata (drop l.key-index l.keys)) (asked_text l.metadata l.keys)
