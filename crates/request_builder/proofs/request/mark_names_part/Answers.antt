-- A place is found exactly if some part has the number.
use Rattle.std.proofs.Common.{◌∙◌}
use Rattle.request_builder.proofs.PartPlaces.{place_named}
use Rattle.request_builder.proofs.request.mark_names_part.Goals as goal

pub returns : goal.returns
returns c = c.is_some.ensures ∙ place_named c.args.parts.now c.args.mark.now.number c.place_of.result c.place_of.ensures
