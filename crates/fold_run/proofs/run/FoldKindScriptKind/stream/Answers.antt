use Rattle.std.specs.Prelude.{string_bytes}
use Rattle.fold_run.proofs.FoldingLemmas.{text_of_bytes}
use Rattle.fold_run.proofs.run.FoldKindScriptKind.stream.Goals as goal

pub returns : goal.returns
returns c =
    let made = c.in_ok-made.ensures in
    text_of_bytes c.args.bytes.now made.0 (string_bytes c.in_ok-made.made.text) made.1 made.2
