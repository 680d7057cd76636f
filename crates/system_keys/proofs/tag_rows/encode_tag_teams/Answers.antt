use Rattle.system_keys.specs.declared.location.Location.TheVariants.{Tags}
use Rattle.system_keys.proofs.LocationLaws.{location_again}
use Rattle.system_keys.proofs.tag_rows.encode_tag_teams.Goals as goal

pub returns-clause-round_trip : goal.returns-clause-round_trip
returns-clause-round_trip c =
    rw (c.in_ok-push_counted_tags-2.ensures, c.in_ok-push_counted_tags.ensures, c.in_ok-extend_from_slice.ensures.items, c.in_ok-bytes.ensures.items, c.sources-2.ensures.value, c.destinations-2.ensures.value)
    (location_again (Tags c.args.teams.now) c.sources.ensures.kept)
