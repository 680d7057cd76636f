use Rattle.std.proofs.Common.{arith}
use Rattle.std.specs.Prelude.{string_bytes}
use Rattle.std.proofs.lemmas.List.{drop_all}
use Rattle.system_keys.proofs.TextLaws.{printed_again}
use Rattle.system_keys.proofs.text.print_bytes.Goals as goal

pub returns-clause-round_trip : goal.returns-clause-round_trip
returns-clause-round_trip c =
    printed_again (string_bytes c.loop-byte.text) _ c.args.bytes.now (drop_all c.loop-byte.byte-index c.args.bytes.now c.loop-byte-test.false) (λ i. omega (arith, c.type_inv.bytes i)) c.loop-byte.invariant
