use Rattle.std.proofs.Common.{◌≡◌, ◌+◌, ◌-◌, ◌^◌, length, arith}
use Rattle.std.specs.Prelude.{min}
use Rattle.std.proofs.lemmas.List.{drop_all}
use Rattle.system_keys.specs.Text.{text_of}
use Rattle.system_keys.proofs.text.text_length.Goals as goal

pub returns : goal.returns
returns c =
    let none = drop_all c.loop-byte.byte-index c.args.bytes.now c.loop-byte-test.false in
    let whole : min (c.loop-byte.length + 0) (2 ^ 64 - 1) ≡ min (length (text_of c.args.bytes.now)) (2 ^ 64 - 1) =
    rw none at c.loop-byte.invariant.whole in
    omega (arith, c.loop-byte.invariant.fits)
