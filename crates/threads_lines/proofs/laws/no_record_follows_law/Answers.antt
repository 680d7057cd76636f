use Rattle.std.proofs.Common.{◌≡◌, ◌≤◌, ◌+◌, ◌-◌, ◌^◌, ◌<◌, refl, arith}
use Rattle.threads_lines.proofs.LawLemmas.{no_record_follows_an_end}
use Rattle.threads_lines.proofs.laws.no_record_follows_law.Goals as goal

pub returns : goal.returns
returns c = record {
  none_follows = no_record_follows_an_end;
  full = record {
    full = (refl, omega arith);
    a_row_left = λ is. let left : 2 ≤ 1 = is.1 in omega (arith, left);
    another_number = λ is. let same : 2 ≡ 1 = is.0 in omega (arith, same);
    want_of_memory = λ is. is;
  };
  ended = record {
    ended = (omega arith, omega arith);
    one_left = λ is. let limit : 2 ^ 63 ≤ 2 ^ 62 + (2 ^ 62 - 1) = is.1 in omega (arith, limit);
    no_row_left = λ is. let left : 1 < 1 = is.0 in omega (arith, left);
  };
}
