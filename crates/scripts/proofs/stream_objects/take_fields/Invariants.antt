use Rattle.std.proofs.Common.{length}
use Rattle.serde_json.specs.Data.{Members}
use Rattle.scripts.proofs.StreamObjectLemmas.{FieldsSoFar}
use Rattle.scripts.proofs.stream_objects.take_fields.Given as goal

abbrev pub invariant-fields : goal.invariant-fields
invariant-fields g l = (ms : Members) × FieldsSoFar l.depth l.initial.reader ms l.reader × g.F.Fields.holds l.fields ms

abbrev pub decreases-fields : goal.decreases-fields
decreases-fields g l = length l.reader
