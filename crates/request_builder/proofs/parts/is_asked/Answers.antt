-- The set of the number is looked up, or is empty.
use Rattle.std.proofs.Common.{ap, sym, ◌∙◌}
use Rattle.request_builder.specs.AskedResolvers.{is_in}
use Rattle.request_builder.proofs.Steps.{list_found, list_past}
use Rattle.request_builder.proofs.parts.is_asked.Goals as goal

pub returns-in-Some : goal.returns-in-Some
returns-in-Some c =
    c.has.ensures
    ∙ ap (is_in c.args.resolver) (sym (list_found c.args.sets.now c.args.place c.in-Some.set.now c.in-Some.ensures.lookup.3.0 c.in-Some.ensures.lookup.1))

pub returns-in-None : goal.returns-in-None
returns-in-None c = ap (is_in c.args.resolver) (sym (list_past c.args.sets.now c.args.place c.in-None.ensures.lookup.3))
