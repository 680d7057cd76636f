use Rattle.std.proofs.Common.{arith}
use Rattle.scripts.proofs.StreamObjectLemmas.{if_some_weaker, taken_object}
use Rattle.scripts.proofs.stream_objects.take_object.Goals as goal

pub returns : goal.returns
returns g c =
    if_some_weaker c.take_fields.result
    (λ fields read. (read.0, taken_object c.args.depth c.args.reader.now c.take_begin_object.new.self c.take_fields.new.reader read.0 (grind arith) (omega arith) read.1, read.2)) c.take_fields.ensures
