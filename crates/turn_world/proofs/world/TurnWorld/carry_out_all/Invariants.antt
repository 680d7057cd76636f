-- The events so far are carried out, and there is room for the answers to come.
use Rattle.std.proofs.Common.{◌≡◌, ◌≤◌, take, map, length}
use Rattle.std.specs.Vec.{vec_capacity}
use Rattle.turn_world.specs.Events.{event_of}
use Rattle.turn_world.specs.Steps.{HasCarriedOut}
use Rattle.turn_world.proofs.world.TurnWorld.carry_out_all.Given as goal

abbrev pub invariant-loop-carried_out : goal.invariant-loop-carried_out
invariant-loop-carried_out l =
    record {
      count : length l.answers.items ≡ l.carried_out;
      room : length l.events ≤ vec_capacity l.answers;
      so_far : HasCarriedOut l.fn.self l.self (take l.carried_out (map event_of l.events)) l.answers.items;
    }
