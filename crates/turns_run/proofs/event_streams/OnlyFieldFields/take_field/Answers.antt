use Rattle.std.proofs.Common.{arith}
use Rattle.turns_run.proofs.EventLemmas.{only_field}
use Rattle.turns_run.proofs.event_streams.OnlyFieldFields.take_field.Goals as goal

pub returns : goal.returns
returns c =
    let found = c.in_ok-event.ensures in
    (found.0, found.1, only_field c.args.self.now.event c.args.name.now found.0 c.in_ok-event.event (grind arith) found.2)
