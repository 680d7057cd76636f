use Rattle.std.proofs.Common.{sym, arith, ◌<◌, ◌≡◌, length}
use Rattle.std.proofs.lemmas.Bool.Decides.{nat_tests}
use Rattle.system_keys.proofs.TextLaws.{count_next, count_stop, count_done}
use Rattle.system_keys.proofs.text.decoded_length.Goals as goal

pub returns-in_err-_byte : goal.returns-in_err-_byte
returns-in_err-_byte c =
    let more : 0 < length c.loop-rest.rest.now = grind (arith, nat_tests) in
    rw (c.from_residual.ensures) (sym (count_stop c.loop-rest.length c.loop-rest.rest.now _ more (sym c.in_err-_byte.ensures.value) c.loop-rest.invariant.told))

pub loop-rest-preserved : goal.loop-rest-preserved
loop-rest-preserved c = record {
  told = count_next c.loop-rest.length c.loop-rest.rest.now _ _ _ (sym c.in_ok-_byte.ensures.value) c.loop-rest.invariant.told;
  room = omega (arith, c.in_ok-_byte.ensures.shorter, c.loop-rest.invariant.room);
}

pub returns : goal.returns
returns c =
    let done : length c.loop-rest.rest.now ≡ 0 = grind (arith, nat_tests) in
    sym (count_done c.loop-rest.length c.loop-rest.rest.now _ done c.loop-rest.invariant.told)
