use Rattle.std.proofs.Common.{◌≡◌, drop}
use Rattle.serde_json.specs.View.{items_view}
use Rattle.scripts.specs.Shapes.{each_shape}
use Rattle.scripts.proofs.ListLemmas.{read_behind}
use Rattle.scripts.proofs.shaped.each.Given as goal

abbrev pub invariant-loop-value : goal.invariant-loop-value
invariant-loop-value g l = read_behind l.items.items (each_shape g.X.Shaped.shape (items_view (drop l.value-index l.values))) ≡ each_shape g.X.Shaped.shape (items_view l.values)
