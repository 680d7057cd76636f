use Rattle.std.proofs.Common.{arith}
use Rattle.std.specs.Cow.{cow_str_bytes}
use Rattle.scripts.specs.Shapes.{pair_shape}
use Rattle.scripts.proofs.StreamObjectLemmas.{takes_one}
use Rattle.scripts.proofs.stream_objects.take_object_of_pair.Goals as goal

pub returns-then-take_end_object : goal.returns-then-take_end_object
returns-then-take_end_object c =
    takes_one pair_shape c.args.depth c.args.reader.now c.take_begin_object.new.self c.take_key.new.self c.take_pair.new.reader c.take_end_object.new.self
    (cow_str_bytes c.in_ok-name.name) c.in_ok-pair.pair (grind arith) (omega arith) (grind arith) c.in_ok-pair.ensures (grind arith)
