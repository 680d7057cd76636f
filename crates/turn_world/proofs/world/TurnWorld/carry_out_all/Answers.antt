-- No event is carried out yet; and then one more.
use Rattle.std.proofs.Common.{◌≡◌, refl, arith, ap, ◌∙◌, subst, sym, ◌+◌, [], ◌∷◌, length, length-append}
use Rattle.turn_world.specs.Steps.{HasCarriedOut}
use Rattle.turn_world.proofs.EventRuns.{none_carried_out, one_more, stopped_at_first, stopped_at}
use Rattle.turn_world.proofs.world.TurnWorld.carry_out_all.Goals as goal

pub loop-carried_out-init : goal.loop-carried_out-init
loop-carried_out-init c =
    record {
      count = ap length c.in-Ok.ensures.items;
      room = c.in-Ok.ensures.capacity;
      so_far = subst (HasCarriedOut c.args.self.now c.args.self.now []) (sym c.in-Ok.ensures.items) (none_carried_out c.args.self.now);
    }

pub loop-carried_out-preserved : goal.loop-carried_out-preserved
loop-carried_out-preserved c =
    let l = c.loop-carried_out in
    let did = c.in-Ok-append_answer.ensures.ok in
    let count : length c.append_answer.new.answers.items ≡ l.carried_out + 1 = ap length did.1 ∙ length-append l.answers.items (did.0 ∷ []) ∙ (let many = l.invariant.count in omega (arith, many)) in
    record {
      count = count;
      room = let same = c.append_answer.ensures.room in omega (arith, l.invariant.room, same);
      so_far = one_more c.args.self.now l.self c.append_answer.new.self c.args.events.now l.carried_out (l.carried_out + 1) c.index-events-carried_out.result l.answers.items c.append_answer.new.answers.items did.0 (omega arith) c.loop-carried_out-test.true c.index-events-carried_out.is did.1 l.invariant.so_far did.2;
    }

pub returns-in_default : goal.returns-in_default
returns-in_default c = stopped_at_first c.args.self.now c.args.events.now (record { carried_out = 0; answers = c.new.result }) c.in_default.ensures.succeeds refl c.new.ensures.items

pub returns-in_default-append_answer : goal.returns-in_default-append_answer
returns-in_default-append_answer c =
    let l = c.loop-carried_out in
    let failed = c.in_default-append_answer.ensures.err in
    stopped_at c.args.self.now l.self c.append_answer.new.self c.args.events.now c.index-events-carried_out.result l.answers.items (record { carried_out = l.carried_out; answers = c.append_answer.new.answers }) failed.0 failed.1 l.invariant.count c.loop-carried_out-test.true c.index-events-carried_out.is failed.2 l.invariant.so_far
