-- One more record is looked at.
use Rattle.std.proofs.Common.{◌≡◌, ◌+◌, ap, length, arith}
use Rattle.facts.specs.Stretches.{Stretch, end_of}
use Rattle.model.specs.Records.{Record}
use Rattle.threads_lines.proofs.CheckLemmas.{count_last, count_next, had_at, none_lacking}
use Rattle.threads_lines.proofs.run_history.count_records_of.Goals as goal

pub unreachable-requires : goal.unreachable-requires
unreachable-requires g c =
    let h = c.args.history.now.records in
    let told = c.records-records.ensures.value in
    let size : end_of c.records-records.result.now ≡ 0 + length h = ap (λ (s : Stretch Record). end_of s) told in
    none_lacking c.records-records.result.now h c.loop-row.row told (omega (arith, size, c.end-row-end.ensures.value)) c.in_default.ensures

pub loop-row-preserved : goal.loop-row-preserved
loop-row-preserved g c =
    let l = c.loop-row in
    let h = c.args.history.now.records in
    let rec = c.in-Some.rec.now in
    let one = c.count_if_own-count.result in
    record {
      count = count_next c.args.proxy h l.row rec l.count one (had_at c.records-records.result.now h l.row rec c.records-records.ensures.value c.in-Some.ensures)
          c.count_if_own-count.ensures.own c.count_if_own-count.ensures.other l.invariant.count;
      within = omega (arith, l.invariant.within, c.count_if_own-count.ensures.limit);
    }

pub returns-clause-value : goal.returns-clause-value
returns-clause-value g c =
    let l = c.loop-row in
    let h = c.args.history.now.records in
    let size : end_of c.records-records.result.now ≡ 0 + length h = ap (λ (s : Stretch Record). end_of s) c.records-records.ensures.value in
    count_last c.args.proxy h l.row l.count (omega (arith, size, c.end-row-end.ensures.value)) l.invariant.count
