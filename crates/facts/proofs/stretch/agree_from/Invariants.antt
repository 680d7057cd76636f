-- The facts at the places so far agree.
use Rattle.facts.proofs.PlaceLaws.{AgreeUpTo}
use Rattle.facts.specs.Stretches.{values}
use Rattle.facts.proofs.stretch.agree_from.Given as goal

abbrev pub invariant-loop-place : goal.invariant-loop-place
invariant-loop-place g l = AgreeUpTo l.place l.start (values l.one.items) (values l.other.items)
