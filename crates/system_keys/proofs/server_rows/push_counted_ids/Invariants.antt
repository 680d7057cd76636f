use Rattle.std.proofs.Common.{◌≡◌, ◌++◌, drop}
use Rattle.std.specs.List.{flat_map}
use Rattle.system_keys.specs.Rows.{counted_ids, are_ids}
use Rattle.system_keys.proofs.server_rows.push_counted_ids.Given as goal

abbrev pub invariant-loop-id : goal.invariant-loop-id
invariant-loop-id l = record {
  told : l.bytes.items ++ flat_map (λ id. id) (drop l.id-index l.ids) ≡ l.fn.bytes.items ++ counted_ids l.ids;
  wide : are_ids (drop l.id-index l.ids) ≡ are_ids l.ids;
}
