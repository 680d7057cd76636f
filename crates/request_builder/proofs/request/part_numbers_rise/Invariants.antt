-- The parts so far rise, and the others are still to be looked at.
use Rattle.std.proofs.Common.{◌≡◌, drop}
use Rattle.request_builder.specs.Requests.{part_numbers_rise, least_after}
use Rattle.request_builder.proofs.request.part_numbers_rise.Given as goal

abbrev pub invariant-loop-part : goal.invariant-loop-part
invariant-loop-part l = part_numbers_rise (least_after l.last) (drop l.part-index l.parts) ≡ part_numbers_rise 0 l.parts
