-- The parts so far, and those of the transactions that are left, are all parts.
use Rattle.std.proofs.Common.{◌≡◌, ◌++◌, drop}
use Rattle.request_builder.specs.AskedResolvers.{parts_for}
use Rattle.request_builder.proofs.parts.parts_for.Given as goal

abbrev pub invariant-loop-number : goal.invariant-loop-number
invariant-loop-number l =
    l.parts.items ++ parts_for l.resolver l.number (drop l.number l.batch) (drop l.number l.askings)
    ≡ parts_for l.resolver 0 l.batch l.askings
