-- The move that failed is one of the moves.
use Rattle.threads_lines.proofs.MoveLemmas.{fault_of_some}
use Rattle.threads_lines.proofs.cluster.RunCluster.move_ranges.Goals as goal

pub returns : goal.returns
returns g c = fault_of_some g.N.Naming.cells.config _ _ c.args.moves.now c.move_all.result c.move_all.ensures.stopped
