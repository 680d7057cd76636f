-- The marks so far, and those of the transactions that are left, are all marks.
use Rattle.std.proofs.Common.{◌≡◌, ◌++◌, drop}
use Rattle.request_builder.specs.AskedResolvers.{marks_for}
use Rattle.request_builder.proofs.marks.marks_for.Given as goal

abbrev pub invariant-loop-number : goal.invariant-loop-number
invariant-loop-number l =
    l.marks.items ++ marks_for l.resolver l.number (drop l.number l.batch) (drop l.number l.askings)
    ≡ marks_for l.resolver 0 l.batch l.askings
