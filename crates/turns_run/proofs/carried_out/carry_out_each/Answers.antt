use Rattle.std.proofs.Common.{◌≡◌, ◌++◌, ◌∷◌, [], arith, refl}
use Rattle.std.specs.Prelude.{string_bytes}
use Rattle.scripts.proofs.StreamLemmas.{taken_shorter}
use Rattle.scripts.proofs.StreamListLemmas.{no_end, so_far_start, so_far_turn, so_far_end}
use Rattle.turns_run.specs.Checks.{checked_event}
use Rattle.turns_run.specs.Shapes.{event_shape}
use Rattle.scripts.proofs.CheckLemmas.{checked_turn}
use Rattle.turns_run.proofs.CarryingOutLemmas.{carry_out_end, carry_out_start, carry_out_turn}
use Rattle.turns_run.proofs.carried_out.carry_out_each.Goals as goal

pub events-init : goal.events-init
events-init c = ([], [], so_far_start event_shape c.args.depth c.args.reader.now, refl, carry_out_start (string_bytes c.args.text.now) c.args.world.now)

pub events-smaller : goal.events-smaller
events-smaller c =
    let going : c.take_end_array.new.self ≡ c.events.reader = grind arith in
    let carried_out = c.in_ok-carry_out_next.ensures in
    taken_shorter event_shape c.args.depth c.events.reader c.carry_out_next.new.reader carried_out.0 (rw going at carried_out.2)

pub events-preserved : goal.events-preserved
events-preserved c =
    let l = c.events in
    let carried_out = c.in_ok-carry_out_next.ensures in
    let so_far = l.invariant in
    let going : c.take_end_array.new.self ≡ l.reader = grind arith in
    let taken = rw going at carried_out.2 in
    let more = no_end event_shape c.args.depth l.reader carried_out.0 c.carry_out_next.new.reader taken in (
      so_far.0 ++ carried_out.0 ∷ [],
      so_far.1 ++ carried_out.1 ∷ [],
      so_far_turn event_shape c.args.depth c.args.reader.now l.reader c.carry_out_next.new.reader so_far.0 carried_out.0 so_far.2 more taken,
      checked_turn checked_event so_far.0 so_far.1 carried_out.0 carried_out.1 so_far.3 carried_out.3,
      carry_out_turn so_far.1 (string_bytes c.args.text.now) c.args.world.now (string_bytes l.text) l.world carried_out.1 (string_bytes c.carry_out_next.new.text) c.carry_out_next.new.world so_far.4 carried_out.4.printed carried_out.4.carried_out,
    )

pub returns : goal.returns
returns c =
    let l = c.events in
    let so_far = l.invariant in (
      so_far.0,
      so_far.1,
      so_far_end event_shape c.args.depth c.args.reader.now l.reader c.take_end_array.new.self so_far.0 so_far.2 (grind arith),
      so_far.3,
      carry_out_end so_far.1 (string_bytes c.args.text.now) c.args.world.now (string_bytes l.text) l.world so_far.4,
    )
