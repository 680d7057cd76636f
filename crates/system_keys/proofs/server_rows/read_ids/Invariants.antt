use Rattle.std.proofs.Common.{◌≡◌, ◌≤◌, ◌-◌, ◌*◌, ◌++◌, length}
use Rattle.system_keys.specs.Rows.{ids_in}
use Rattle.system_keys.proofs.server_rows.read_ids.Given as goal

abbrev pub invariant-loop : goal.invariant-loop
invariant-loop l = record {
  told : l.ids.items ++ ids_in (l.count - l.counter) l.rest ≡ ids_in l.count l.bytes;
  enough : 16 * (l.count - l.counter) ≤ length l.rest;
}
