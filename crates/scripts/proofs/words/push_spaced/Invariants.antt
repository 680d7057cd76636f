use Rattle.std.proofs.Common.{drop, map}
use Rattle.std.specs.List.{flat_map}
use Rattle.pages.proofs.Prints.{Leaves}
use Rattle.scripts.specs.Lines.{spaced}
use Rattle.scripts.proofs.words.push_spaced.Given as goal

abbrev pub invariant-loop-word : goal.invariant-loop-word
invariant-loop-word g l =
    Leaves g.P.Page.has_printed l.fn.page l.page (flat_map spaced (map g.W.Word.word (drop l.word-index l.words)))
    (flat_map spaced (map g.W.Word.word l.words))
