use Rattle.std.proofs.Common.{arith}
use Rattle.scripts.proofs.StreamLemmas.{takes_number}
use Rattle.scripts.proofs.stream_shapes.U64Streamed.from_tokens.Goals as goal

pub returns-then-number-le-NUMBER_LIMIT : goal.returns-then-number-le-NUMBER_LIMIT
returns-then-number-le-NUMBER_LIMIT c =
    let read = c.in_ok-number.ensures in
    takes_number c.args._depth read.0 c.in_ok-number.number c.args.reader.now c.take_number.new.self read.1 read.2 (omega arith)
