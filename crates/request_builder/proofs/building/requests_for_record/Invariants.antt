-- The requests so far are those to the resolvers so far.
use Rattle.std.proofs.Common.{◌≡◌, map}
use Rattle.model.specs.Shares.{each_below}
use Rattle.request_builder.specs.AskedResolvers.{request_for_resolver}
use Rattle.request_builder.proofs.building.requests_for_record.Given as goal

abbrev pub invariant-loop-resolver : goal.invariant-loop-resolver
invariant-loop-resolver l = l.requests.items ≡ map (request_for_resolver l.rec l.last_received l.askings) (each_below l.resolver)
