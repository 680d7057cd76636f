use Rattle.scripts.specs.Shapes.{bytes_shape}
use Rattle.scripts.proofs.StreamLemmas.{takes_text}
use Rattle.scripts.proofs.StreamObjectLemmas.{if_some_weaker}
use Rattle.scripts.proofs.stream_shapes.BytesStreamed.from_tokens.Goals as goal

pub returns : goal.returns
returns c =
    if_some_weaker c.take_bytes.result (λ bytes read. takes_text bytes_shape c.args._depth read.0 c.args.reader.now c.take_bytes.new.self bytes read.1 read.2) c.take_bytes.ensures
