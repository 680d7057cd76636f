-- One more record is looked at.
use Rattle.std.proofs.Common.{◌≡◌, ◌+◌, ap, length, arith}
use Rattle.facts.specs.Stretches.{Stretch, end_of}
use Rattle.model.specs.Records.{Record}
use Rattle.threads_lines.proofs.CheckLemmas.{had_at, none_lacking, version_last, version_next}
use Rattle.threads_lines.proofs.checks.last_version_of.Goals as goal

pub unreachable-requires : goal.unreachable-requires
unreachable-requires g c =
    let h = c.args.history.now.records in
    let told = c.records-records.ensures.value in
    let size : end_of c.records-records.result.now ≡ 0 + length h = ap (λ (s : Stretch Record). end_of s) told in
    none_lacking c.records-records.result.now h c.loop-row.row told (omega (arith, size, c.end-row-end.ensures.value)) c.in_default.ensures

pub loop-row-preserved : goal.loop-row-preserved
loop-row-preserved g c =
    let l = c.loop-row in
    let h = c.args.history.now.records in
    let rec = c.in-Some.rec.now in
    version_next c.args.proxy h l.row rec l.version c.version_if_own-version.result (had_at c.records-records.result.now h l.row rec c.records-records.ensures.value c.in-Some.ensures)
    c.version_if_own-version.ensures.own c.version_if_own-version.ensures.other l.invariant

pub returns : goal.returns
returns g c =
    let l = c.loop-row in
    let h = c.args.history.now.records in
    let size : end_of c.records-records.result.now ≡ 0 + length h = ap (λ (s : Stretch Record). end_of s) c.records-records.ensures.value in
    version_last c.args.proxy h l.row l.version (omega (arith, size, c.end-row-end.ensures.value)) l.invariant
