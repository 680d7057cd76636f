use Rattle.std.specs.Prelude.{Ok}
use Rattle.scripts.proofs.AnswerLemmas.{output_for-fault, output_for-read}
use Rattle.scripts.proofs.script_kind.output_for_whole.Goals as goal

pub returns-in-Ok-clause-output : goal.returns-in-Ok-clause-output
returns-in-Ok-clause-output g c =
    let answers = g.met.K.ScriptKind.answers c.args.bytes.items in
    rw (output_for-read g.K.ScriptKind.printed _ _ (Ok c.in-Ok.script) c.in-Ok.ensures answers) c.output_of_script.ensures.output

pub returns-in-Err-clause-output : goal.returns-in-Err-clause-output
returns-in-Err-clause-output g c =
    let answers = g.met.K.ScriptKind.answers c.args.bytes.items in
    rw answers (output_for-fault g.K.ScriptKind.printed _ c.in-Err.fault c.output_of_fault.result c.in-Err.ensures c.output_of_fault.ensures.numbered c.output_of_fault.ensures.output)
