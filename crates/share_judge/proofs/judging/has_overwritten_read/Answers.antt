-- One read more is not overwritten, or it is.
use Rattle.std.proofs.Common.{◌∙◌, sym, ap, ◌+◌, ℕ, Bool, ◌||◌, drop}
use Rattle.std.specs.List.{list_any}
use Rattle.share_judge.specs.Steps.{is_written_above}
use Rattle.share_judge.specs.Versions.{all_now}
use Rattle.share_judge.proofs.JudgedParts.{any_next}
use Rattle.share_judge.proofs.judging.has_overwritten_read.Goals as goal

pub loop-place-preserved : goal.loop-place-preserved
loop-place-preserved c =
    let reads = c.args.part.now.reads in
    let test = is_written_above c.conflict_bound-bound.result (all_now c.args.steps.now) in
    c.loop-place.invariant
    ∙ any_next test reads c.loop-place.place c.read_at-read.result.now c.read_at-read.ensures
    ∙ ap (λ (b : Bool). b || list_any test (drop (c.loop-place.place + 1) reads)) (sym c.in_ok-is_written_above.ensures ∙ c.if-branch.false)

pub returns-then-branch : goal.returns-then-branch
returns-then-branch c =
    let reads = c.args.part.now.reads in
    let test = is_written_above c.conflict_bound-bound.result (all_now c.args.steps.now) in
    sym
    (ap (λ (bound : ℕ). list_any (is_written_above bound (all_now c.args.steps.now)) reads) (sym c.conflict_bound-bound.ensures)
    ∙ c.loop-place.invariant
    ∙ any_next test reads c.loop-place.place c.read_at-read.result.now c.read_at-read.ensures
    ∙ ap (λ (b : Bool). b || list_any test (drop (c.loop-place.place + 1) reads)) (sym c.in_ok-is_written_above.ensures ∙ c.if-branch.true))
