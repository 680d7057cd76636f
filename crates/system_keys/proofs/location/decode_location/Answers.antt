use Rattle.std.proofs.Common.{sym, arith}
use Rattle.system_keys.proofs.LocationLaws.{tags_spelled}
use Rattle.system_keys.proofs.location.decode_location.Goals as goal

pub returns-in_ok-decode_tag_lists-in-Some-clause-spelled : goal.returns-in_ok-decode_tag_lists-in-Some-clause-spelled
returns-in_ok-decode_tag_lists-in-Some-clause-spelled c =
    (tags_spelled c.args.bytes.now c.in-Some.lists.now c.in_ok-decode_tag_lists-in-Some.field-0 (λ i. omega (arith, c.type_inv.bytes i)) (sym c.in-Some.ensures) c.in_ok-decode_tag_lists-in-Some.ensures).0
