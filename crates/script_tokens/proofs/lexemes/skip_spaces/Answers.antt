use Rattle.std.proofs.Common.{◌≡◌, ◌∙◌, get_or, true, arith}
use Rattle.std.proofs.lemmas.Bool.Decides.{nat_tests}
use Rattle.json.specs.Word.{is_space}
use Rattle.script_tokens.proofs.LexLemmas.{past_space}
use Rattle.script_tokens.proofs.lexemes.skip_spaces.Goals as goal

pub loop-end-preserved : goal.loop-end-preserved
loop-end-preserved c =
    let here : is_space (get_or c.args.text.now c.loop-end.end 0) ≡ true = grind (arith, nat_tests) in
    past_space c.args.text.now c.loop-end.end (omega arith) here ∙ c.loop-end.invariant
