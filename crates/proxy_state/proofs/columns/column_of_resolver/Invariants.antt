-- The verdicts so far, and those of the lists that are left, are the column.
use Rattle.std.proofs.Common.{◌≡◌, ◌++◌, drop}
use Rattle.proxy_state.specs.Learning.{column_of_resolver}
use Rattle.proxy_state.proofs.columns.column_of_resolver.Given as goal

abbrev pub invariant-loop-list : goal.invariant-loop-list
invariant-loop-list l = l.column.items ++ column_of_resolver l.resolver (drop l.list-index l.lists) l.rest ≡ column_of_resolver l.resolver l.lists l.verdicts
