use Rattle.std.proofs.Common.{◌≡◌, ◌∷◌, arith}
use Rattle.std.specs.Prelude.{string_bytes}
use Rattle.json.specs.Token as tokens
use Rattle.scripts.proofs.StreamListLemmas.{takes_list}
use Rattle.turns_run.specs.Shapes.{event_shape}
use Rattle.turns_run.proofs.CarryingOutLemmas.{carried_out_from_start}
use Rattle.turns_run.proofs.carried_out.CarriedOutFromEvents.take.Goals as goal

pub returns : goal.returns
returns c =
    let carried_out = c.in_ok-carry_out_each.ensures in
    let first : c.args.reader.now ≡ tokens.begin_array ∷ c.take_begin_array.new.self = grind arith in (
      carried_out.0,
      takes_list event_shape c.args.depth c.args.reader.now c.take_begin_array.new.self c.carry_out_each.new.reader carried_out.0 first (omega arith) carried_out.2,
      carried_out_from_start carried_out.0 carried_out.1 (string_bytes c.new-text.result) c.in_ok-config.field-0 c.in_ok-world.world
          (string_bytes c.carry_out_each.new.text) c.carry_out_each.new.world c.new-text.ensures.bytes (grind arith) carried_out.3 carried_out.4,
    )
