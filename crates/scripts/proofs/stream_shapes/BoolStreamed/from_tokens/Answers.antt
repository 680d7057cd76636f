use Rattle.scripts.proofs.StreamLemmas.{takes_bool}
use Rattle.scripts.proofs.StreamObjectLemmas.{if_some_weaker}
use Rattle.scripts.proofs.stream_shapes.BoolStreamed.from_tokens.Goals as goal

pub returns : goal.returns
returns c = if_some_weaker c.take_bool.result (λ value first. takes_bool c.args._depth value c.args.reader.now c.take_bool.new.self first) c.take_bool.ensures
