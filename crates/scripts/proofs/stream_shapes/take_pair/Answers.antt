use Rattle.std.proofs.Common.{arith}
use Rattle.scripts.proofs.StreamListLemmas.{takes_pair}
use Rattle.scripts.proofs.stream_shapes.take_pair.Goals as goal

pub returns-then-take_end_array : goal.returns-then-take_end_array
returns-then-take_end_array c =
    takes_pair c.args.depth c.args.reader.now c.take_begin_array.new.self c.from_tokens.new.reader c.from_tokens-2.new.reader c.take_end_array.new.self
    c.in_ok-first.first c.in_ok-second.second (grind arith) (omega arith) c.in_ok-first.ensures c.in_ok-second.ensures (grind arith)
