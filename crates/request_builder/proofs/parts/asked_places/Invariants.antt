-- The ranges at the places so far, and those that are left, are all ranges.
use Rattle.std.proofs.Common.{◌≡◌, ◌++◌, drop}
use Rattle.model.specs.Parts.{ArePlacesIn, at_places}
use Rattle.request_builder.specs.AskedResolvers.{ranges_for}
use Rattle.request_builder.proofs.parts.asked_places.Given as goal

abbrev pub invariant-loop-place : goal.invariant-loop-place
invariant-loop-place l =
    record {
      within : ArePlacesIn l.ranges l.places;
      chosen : at_places l.ranges l.places ++ ranges_for l.resolver (drop l.place l.ranges) (drop l.place l.sets) ≡ ranges_for l.resolver l.ranges l.sets;
    }
