use Rattle.std.proofs.Common.{◌≡◌, ◌≤◌, ◌*◌, length}
use Rattle.std.specs.Io.KnownBytes.{Consumes}
use Rattle.scripts.specs.Devices.{saturating_add, read_size}
use Rattle.scripts.proofs.devices.read_all.Given as goal

abbrev pub invariant-loop-call : goal.invariant-loop-call
invariant-loop-call g l =
    let remaining = g.S.Source.remaining in
    let failed = g.S.Source.failed in
    let reads = g.S.Source.reads in
    record {
      split : Consumes (remaining l.fn.source) (remaining l.source) l.bytes.items;
      no_failure : failed l.source ≡ failed l.fn.source;
      many : l._call ≤ length l.bytes.items;
      few : length l.bytes.items ≤ l._call * read_size;
      called : reads l.source ≡ saturating_add l._call (reads l.fn.source);
    }
