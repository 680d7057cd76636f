use Rattle.std.proofs.Common.{◌+◌, ◌∙◌, ◌∷◌, ap, sym, drop, arith}
use Rattle.std.proofs.lemmas.List.{at_drop_all, at_drop_more}
use Rattle.pages.proofs.Prints.{leaves_all, leaves_less, leaves_none}
use Rattle.scripts.specs.Lines.{asked_text}
use Rattle.cluster_lines.proofs.metadata_lines.print_asked_keys.Goals as goal

pub loop-key-init : goal.loop-key-init
loop-key-init g c = leaves_all _ _

pub loop-key-preserved : goal.loop-key-preserved
loop-key-preserved g c =
    leaves_less c.loop-key.invariant c.in_ok-print_tags_of_key.ensures
    (at_drop_more (asked_text c.args.metadata.now) c.args.keys.now c.loop-key.key-index c.key-item.result c.loop-key-test.true
    ∙ ap (λ item. asked_text c.args.metadata.now (item ∷ drop (c.loop-key.key-index + 1) c.args.keys.now)) (sym c.key-item.is))

pub returns : goal.returns
returns g c =
    leaves_none c.loop-key.invariant
    (at_drop_all (asked_text c.args.metadata.now) c.args.keys.now c.loop-key.key-index (omega arith))
