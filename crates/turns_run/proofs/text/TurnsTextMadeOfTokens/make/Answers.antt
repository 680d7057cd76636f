use Rattle.std.proofs.Common.{arith, List}
use Rattle.std.specs.Prelude.{string_bytes}
use Rattle.serde_json.specs.Data.{object}
use Rattle.scripts.proofs.StreamObjectLemmas.{if_some_weaker}
use Rattle.turns_run.specs.CarryingOut.{AreCarriedOut}
use Rattle.turns_run.specs.declared.carried_out.CarriedOut.{CarriedOut}
use Rattle.turns_run.specs.declared.script.RawEvent.{RawEvent}
use Rattle.turns_run.proofs.CarryingOutLemmas.{text_of_script}
use Rattle.turns_run.proofs.StreamLemmas.{script_of_fields}
use Rattle.turns_run.proofs.text.TurnsTextMadeOfTokens.make.Goals as goal

pub returns : goal.returns
returns c =
    let read = c.in_ok-fields.ensures in
    let config = c.in_ok-config.config in
    let numbers = c.in_ok-config.ensures in
    let is_from = λ (carried_out : CarriedOut) (raws : List RawEvent). AreCarriedOut raws (string_bytes carried_out.text) carried_out.world in
    let script = script_of_fields is_from c.in_ok-fields.fields read.0 config c.in_ok-carried_out.carried_out c.in_ok-ask.ask read.2 numbers.0 numbers.1 numbers.2 numbers.3 numbers.4 (grind arith) (grind arith) in
    if_some_weaker c.end_turns_text.result (λ made ended. (
      object read.0,
      read.1,
      text_of_script (object read.0) config script.0 c.in_ok-ask.ask _ (string_bytes made.text) _ script.2 script.1 ended.0 ended.1,
    )) c.end_turns_text.ensures
