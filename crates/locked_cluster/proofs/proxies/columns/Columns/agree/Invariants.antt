-- The columns of the resolvers so far agree.
use Rattle.std.proofs.Common.{ℕ, ◌<◌}
use Rattle.facts.specs.Stretches.{Agree}
use Rattle.model.specs.Journal.{list_at}
use Rattle.locked_cluster.specs.Columns.{known_columns}
use Rattle.locked_cluster.proofs.proxies.columns.Columns.agree.Given as goal

abbrev pub invariant-loop-resolver : goal.invariant-loop-resolver
invariant-loop-resolver g l = (r : ℕ) → r < l.resolver → Agree 0 (list_at (known_columns l.self-inside.columns.items) r) 0 (list_at (known_columns l.other-inside.columns.items) r)
