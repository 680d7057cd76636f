use Rattle.std.proofs.Common.{arith}
use Rattle.system_keys.proofs.ListedTagLaws.{lists_spelled}
use Rattle.system_keys.proofs.tag_rows.decode_tag_lists.Goals as goal

pub from_valid-requires : goal.from_valid-requires
from_valid-requires c =
    rw (c.in_ok-sources.ensures, c.in_ok-destinations.ensures) (lists_spelled c.args.bytes.now _ (λ i. omega (arith, c.type_inv.bytes i)) c.in_ok-rest.ensures).1
