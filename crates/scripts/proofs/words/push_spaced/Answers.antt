use Rattle.std.proofs.Common.{ℕ, ◌+◌, ◌∙◌, List, ◌∷◌, ap, sym, drop, map, arith}
use Rattle.std.specs.List.{flat_map}
use Rattle.std.proofs.lemmas.List.{at_drop_all, at_drop_more}
use Rattle.pages.proofs.Prints.{leaves_all, leaves_less, leaves_none, prints_both}
use Rattle.scripts.specs.Lines.{spaced}
use Rattle.scripts.proofs.words.push_spaced.Goals as goal

abbrev text : {W : Type 0} → (W → List ℕ) → List W → List ℕ
text word words = flat_map spaced (map word words)

pub loop-word-init : goal.loop-word-init
loop-word-init g c = leaves_all _ _

pub loop-word-preserved : goal.loop-word-preserved
loop-word-preserved g c =
    leaves_less c.loop-word.invariant (prints_both c.push.ensures c.push_to.ensures)
    (at_drop_more (text g.W.Word.word) c.args.words.now c.loop-word.word-index c.word-item.result c.loop-word-test.true
    ∙ ap (λ item. text g.W.Word.word (item ∷ drop (c.loop-word.word-index + 1) c.args.words.now)) (sym c.word-item.is))

pub returns : goal.returns
returns g c = leaves_none c.loop-word.invariant (at_drop_all (text g.W.Word.word) c.args.words.now c.loop-word.word-index (omega arith))
