-- The moves of the last record tell those of each.
use Rattle.std.proofs.Common.{◌≡◌, ◌≢◌, ◌∙◌, ◌+◌, ap, sym, subst, length, map, refl, arith}
use Rattle.std.specs.Prelude.{Bool, MatchBool}
use Rattle.facts.specs.Stretches.{Stretch, end_of}
use Rattle.model.specs.Configs.{Config, IsConfig}
use Rattle.model.specs.Records.{Record}
use Rattle.threads_lines.specs.Moves.{dated}
use Rattle.threads_lines.proofs.CheckLemmas.{all_at, had_at, moves_of_each, none_lacking}
use Rattle.threads_lines.proofs.checks.check_moves.Goals as goal

pub unreachable-requires : goal.unreachable-requires
unreachable-requires g c =
    let h = c.args.history.now.records in
    let told = c.records-records.ensures.value in
    let size : end_of c.records-records.result.now ≡ 0 + length h = ap (λ (s : Stretch Record). end_of s) told in
    none_lacking c.records-records.result.now h c.in-Some.last told (omega (arith, size, c.end.ensures.value)) c.in_default-get.ensures

pub returns-then-are_dated_one-clause-checked : goal.returns-then-are_dated_one-clause-checked
returns-then-are_dated_one-clause-checked g c =
    let config = g.N.Naming.cells.config in
    let h = c.args.history.now.records in
    let moves = c.args.moves.now in
    let rec = c.in-Some-get.rec.now in
    let told = c.records-records.ensures.value in
    let limits : IsConfig config = subst (λ (n : Config). IsConfig n) c.config.ensures.value c.step-step.ensures.limits in
    let size : end_of c.records-records.result.now ≡ 0 + length h = ap (λ (s : Stretch Record). end_of s) told in
    let had = c.moves.result.now in
    let same = subst (λ (b : Bool). MatchBool b (had ≡ map (dated 1) moves) (had ≢ map (dated 1) moves)) c.if-are_dated_one.true c.are_dated_one.ensures in
    moves_of_each config h moves c.in-Some.last rec limits.step.0 c.records-records.ensures.kept
    (had_at c.records-records.result.now h c.in-Some.last rec told c.in-Some-get.ensures) (omega (arith, size, c.end.ensures.value))
    (sym c.moves.ensures ∙ same)

pub returns-else-are_dated_one-clause-err : goal.returns-else-are_dated_one-clause-err
returns-else-are_dated_one-clause-err g c =
    let h = c.args.history.now.records in
    let moves = c.args.moves.now in
    let rec = c.in-Some-get.rec.now in
    let at = had_at c.records-records.result.now h c.in-Some.last rec c.records-records.ensures.value c.in-Some-get.ensures in
    let had = c.moves.result.now in
    let apart = subst (λ (b : Bool). MatchBool b (had ≡ map (dated 1) moves) (had ≢ map (dated 1) moves)) c.if-are_dated_one.false c.are_dated_one.ensures in
    (refl, λ all. apart (c.moves.ensures ∙ all_at (λ (r : Record). r.moves ≡ map (dated 1) moves) h c.in-Some.last rec all at))
