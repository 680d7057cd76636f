use Rattle.std.proofs.Common.{codes, refl, rules}
use Rattle.model.specs.declared.verdict.Verdict.TheVariants.{Conflict, TooOld, Committed}
use Rattle.scripts.specs.Shapes.{verdict_shape}
use Rattle.scripts.proofs.StreamLemmas.{takes_text}
use Rattle.scripts.proofs.stream_shapes.VerdictStreamed.from_tokens.Goals as goal

pub returns-in-conflict : goal.returns-in-conflict
returns-in-conflict c = takes_text verdict_shape c.args._depth (codes "conflict") c.args.reader.now c.take_text.new.self Conflict (search rules) refl

pub returns-in-too_old : goal.returns-in-too_old
returns-in-too_old c = takes_text verdict_shape c.args._depth (codes "too_old") c.args.reader.now c.take_text.new.self TooOld (search rules) refl

pub returns-in-committed : goal.returns-in-committed
returns-in-committed c = takes_text verdict_shape c.args._depth (codes "committed") c.args.reader.now c.take_text.new.self Committed (search rules) refl
