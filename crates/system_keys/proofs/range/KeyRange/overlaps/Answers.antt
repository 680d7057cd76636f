-- Both clauses by the two comparisons of ends.
use Rattle.std.proofs.Common.{◌≡◌, sym}
use Rattle.system_keys.specs.Keys.{overlaps}
use Rattle.system_keys.proofs.KeyLaws.{ends_test, overlap_iff}
use Rattle.system_keys.proofs.range.KeyRange.overlaps.Goals as goal

same : (c : goal.After-both_precede) → c.both_precede.result ≡ overlaps c.args.self.now c.args.other.now
same c =
    rw (c.both_precede.ensures, c.begin.ensures.value, c.end.ensures.value, c.begin-2.ensures.value, c.end-2.ensures.value)
    (sym (ends_test c.args.self.now c.args.other.now c.begin.ensures.kept c.end.ensures.kept))

pub returns-clause-test : goal.returns-clause-test
returns-clause-test c = same c

pub returns-clause-shared : goal.returns-clause-shared
returns-clause-shared c = rw (same c) (overlap_iff c.args.self.now c.args.other.now)
