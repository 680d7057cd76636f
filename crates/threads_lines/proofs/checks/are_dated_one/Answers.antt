-- One more move is the same, or one is another.
use Rattle.std.proofs.Common.{◌≡◌, ◌≢◌, ◌∙◌, length, refl, subst, sym, arith}
use Rattle.std.specs.Prelude.{Bool, MatchBool}
use Rattle.std.proofs.lemmas.Option.{slice_get_read}
use Rattle.threads_lines.specs.Moves.{dated}
use Rattle.threads_lines.proofs.CheckLemmas.{all_are_dated, one_more_dated, other_count, other_move}
use Rattle.threads_lines.proofs.checks.are_dated_one.Goals as goal

pub loop-place-init : goal.loop-place-init
loop-place-init c = record { count = sym c.len.ensures ∙ c.if-len-undated.false; same = refl }

pub loop-place-preserved : goal.loop-place-preserved
loop-place-preserved c =
    let l = c.loop-place in
    let undated = c.args.undated.now in
    let at = slice_get_read undated (length undated) l.place c.index-undated-place.result refl c.loop-place-test.true c.index-undated-place.is in
    let m = c.in-Some.one.now in
    let one = c.index-undated-place.result in
    let same = subst (λ (b : Bool). MatchBool b (m ≡ dated 1 one) (m ≢ dated 1 one)) c.if-not-same.false c.is_dated_one-same.ensures in
    record {
      count = l.invariant.count;
      same = one_more_dated c.args.moves.now undated l.place m one c.in-Some.ensures at same l.invariant.same;
    }

pub returns-then-len-undated : goal.returns-then-len-undated
returns-then-len-undated c = other_count c.args.moves.now c.args.undated.now (λ same. c.if-len-undated.true (c.len.ensures ∙ same))

pub returns-in_default : goal.returns-in_default
returns-in_default c = absurd (omega (arith, c.loop-place.invariant.count, c.loop-place-test.true, c.in_default.ensures))

pub returns-then-not-same : goal.returns-then-not-same
returns-then-not-same c =
    let l = c.loop-place in
    let undated = c.args.undated.now in
    let at = slice_get_read undated (length undated) l.place c.index-undated-place.result refl c.loop-place-test.true c.index-undated-place.is in
    let m = c.in-Some.one.now in
    let one = c.index-undated-place.result in
    other_move c.args.moves.now undated l.place m one c.in-Some.ensures at c.if-not-same.ensures

pub returns : goal.returns
returns c = all_are_dated c.args.moves.now c.args.undated.now c.loop-place.place c.loop-place.invariant.count c.loop-place-test.false c.loop-place.invariant.same
