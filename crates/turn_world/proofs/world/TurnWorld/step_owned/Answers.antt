-- The history of a cluster obeys the rule of commit.
use Rattle.std.proofs.Common.{subst}
use Rattle.model.specs.Serial.{IsSerial}
use Rattle.model.specs.Turns.{TurnCluster}
use Rattle.model.proofs.Serializability.Histories.{history_is_serial}
use Rattle.turn_world.specs.Kept.{records_of}
use Rattle.turn_world.proofs.world.TurnWorld.step_owned.Goals as goal

pub returns-clause-serial : goal.returns-clause-serial
returns-clause-serial c =
    let t = c.self.inside in
    subst (λ (now : TurnCluster). IsSerial now.config now.world.history) c.self.view_is (history_is_serial t.config (records_of t.rows.items) c.self.invariant.0.parts.limits c.self.invariant.0.parts.sound.sequencer.history)
