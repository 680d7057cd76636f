use Rattle.std.proofs.Common.{◌≡◌, ◌≤◌, ◌-◌, get_or, arith}
use Rattle.std.proofs.lemmas.Bool.Decides.{nat_tests}
use Rattle.script_tokens.proofs.NumberLemmas.{one_more_digit}
use Rattle.script_tokens.proofs.numbers.front_number.Goals as goal

pub loop-count-preserved : goal.loop-count-preserved
loop-count-preserved c =
    let t = c.args.text.now in
    let at = c.loop-count.count in
    let low : 48 ≤ get_or t at 0 = grind (arith, nat_tests) in
    let high : get_or t at 0 ≤ 57 = grind (arith, nat_tests) in
    let worth : c.from.result ≡ get_or t at 0 - 48 = grind arith in
    let more = one_more_digit t c.loop-count.number at c.loop-count-test.true low high c.loop-count.invariant.value c.loop-count.invariant.digits in
    record {
      value = rw worth more.0;
      digits = more.1;
      within = omega arith;
      small = omega arith;
    }
