-- The parts below the number end at the place, so if the part there has another number, none has it.
use Rattle.std.proofs.Common.{rules, refl, nat_lt, sym, ap, ◌∙◌}
use Rattle.std.proofs.lemmas.List.Sorted.{IsPartitionPoint-from_clause, IsPartitionedBy-ltb}
use Rattle.std.proofs.lemmas.Option.{same_Some, none-some, slice_get_past, slice_get_read}
use Rattle.model.specs.declared.part.Part.{Part}
use Rattle.request_builder.proofs.PartPlaces.{number_of, never_fall, found_at, none_there}
use Rattle.request_builder.proofs.places.place_of.Goals as goal

pub returns-then-number : goal.returns-then-number
returns-then-number c =
    found_at c.args.parts.now c.partition_point-place.result c.args.number c.in-Some.part.now (slice_get_read c.args.parts.now _ c.partition_point-place.result c.in-Some.part.now refl c.in-Some.ensures.lookup.3.0 c.in-Some.ensures.lookup.1) (sym c.number.ensures ∙ c.if-number.true)

pub returns-else-number : goal.returns-else-number
returns-else-number c =
    let parted = IsPartitionedBy-ltb number_of c.args.parts.now c.args.number (never_fall 0 c.args.parts.now c.requires) in
    let point = IsPartitionPoint-from_clause (λ (part : Part). nat_lt part.number c.args.number) _ _ c.partition_point-place.ensures.partitioned parted (λ a r q k. search rules) in
    none_there c.args.parts.now c.partition_point-place.result c.args.number c.requires point (λ part there is. c.if-number.false (c.number.ensures ∙ ap number_of (same_Some c.in-Some.part.now part (sym (slice_get_read c.args.parts.now _ c.partition_point-place.result c.in-Some.part.now refl c.in-Some.ensures.lookup.3.0 c.in-Some.ensures.lookup.1) ∙ there)) ∙ is))

pub returns-in_default : goal.returns-in_default
returns-in_default c =
    let parted = IsPartitionedBy-ltb number_of c.args.parts.now c.args.number (never_fall 0 c.args.parts.now c.requires) in
    let point = IsPartitionPoint-from_clause (λ (part : Part). nat_lt part.number c.args.number) _ _ c.partition_point-place.ensures.partitioned parted (λ a r q k. search rules) in
    none_there c.args.parts.now c.partition_point-place.result c.args.number c.requires point (λ part there is. none-some part (sym (slice_get_past c.args.parts.now _ c.in_default.ensures.lookup.3) ∙ there))
