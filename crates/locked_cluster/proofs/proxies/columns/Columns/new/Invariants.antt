-- An empty column of each resolver so far.
use Rattle.std.proofs.Common.{◌≡◌, [], replicate}
use Rattle.locked_cluster.proofs.proxies.columns.Columns.new.Given as goal

abbrev pub invariant-loop-resolver : goal.invariant-loop-resolver
invariant-loop-resolver g l = l.columns ≡ replicate l.resolver []
