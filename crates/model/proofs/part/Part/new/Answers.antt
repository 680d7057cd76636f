-- The part has all places of both lists, and no lock row.
use Rattle.std.proofs.Common.{◌≡◌, ◌∙◌, sym, ap, ap₂, List, [], ◌++◌, append-nil}
use Rattle.system_keys.specs.Keys.{Range}
use Rattle.model.specs.Parts.{RangesView, PartView}
use Rattle.model.proofs.Parts.{every_place, every_range}
use Rattle.model.proofs.part.Part.new.Goals as goal

pub invariant_of-result : goal.invariant_of-result
invariant_of-result c =
    let ranges = c.in_ok-new.field-0 in (
      every_place ranges.reads c.as_slice.result.now c.args.reads c.in_ok-read_places.read_places (ap (λ (r : RangesView). r.reads) c.in_ok-new.ensures) c.as_slice.ensures c.in_ok-read_places.ensures,
      every_place ranges.writes c.as_slice-2.result.now c.args.writes c.in_ok-write_places.write_places (ap (λ (r : RangesView). r.writes) c.in_ok-new.ensures) c.as_slice-2.ensures c.in_ok-write_places.ensures,
    )

pub returns : goal.returns
returns c =
    let ranges = c.in_ok-new.field-0 in
    let none : c.from.result ≡ [] = c.from.ensures ∙ c.new-2.ensures.items in
    let reads = every_range ranges.reads c.as_slice.result.now c.args.reads c.in_ok-read_places.read_places (ap (λ (r : RangesView). r.reads) c.in_ok-new.ensures) c.as_slice.ensures c.in_ok-read_places.ensures in
    let writes = every_range ranges.writes c.as_slice-2.result.now c.args.writes c.in_ok-write_places.write_places (ap (λ (r : RangesView). r.writes) c.in_ok-new.ensures) c.as_slice-2.ensures c.in_ok-write_places.ensures in
    ap₂ (λ (rs ws : List Range). record { number = c.args.number; snapshot = c.args.snapshot; reads = rs; writes = ws }) (ap₂ (λ (rs ls : List Range). rs ++ ls) reads none ∙ append-nil c.args.reads) writes
