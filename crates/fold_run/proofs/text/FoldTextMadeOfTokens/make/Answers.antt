use Rattle.std.proofs.Common.{arith, List}
use Rattle.std.specs.Prelude.{string_bytes}
use Rattle.serde_json.specs.Data.{object}
use Rattle.scripts.proofs.StreamObjectLemmas.{if_some_weaker}
use Rattle.fold_run.specs.Folding.{AreFolded}
use Rattle.fold_run.specs.declared.folded_rows.FoldedRows.{FoldedRows}
use Rattle.fold_run.specs.declared.script.RawRow.{RawRow}
use Rattle.fold_run.proofs.FoldingLemmas.{text_of_script}
use Rattle.fold_run.proofs.StreamLemmas.{fields_of_script}
use Rattle.fold_run.proofs.text.FoldTextMadeOfTokens.make.Goals as goal

pub returns : goal.returns
returns c =
    let read = c.in_ok-fields.ensures in
    let resolvers = c.in_ok-resolvers.resolvers in
    let folded = c.in_ok-folded.folded in
    let ask = c.in_ok-ask.ask in
    let is_from = λ (folded : FoldedRows) (raws : List RawRow). AreFolded raws folded in
    let script = fields_of_script is_from c.in_ok-fields.fields read.0 resolvers folded ask read.2 (grind arith) (grind arith) (grind arith) in
    if_some_weaker c.text_of_folded.result (λ made printed. (
      object read.0,
      read.1,
      text_of_script (object read.0) resolvers script.0 ask folded (string_bytes made.text) script.2 script.1 (grind arith) (grind arith) printed,
    )) c.text_of_folded.ensures
