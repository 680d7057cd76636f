use Rattle.std.proofs.Common.{ℕ, leb, cond, refl, arith}
use Rattle.std.proofs.lemmas.Simd.{zip2_splat, length-chunk}
use lib.Lanes.{chunk}
use Rattle.system_keys.proofs.LaneLaws.{joined, splat_is, run_within, run_plain}
use Rattle.system_keys.proofs.plain.plain_run.Goals as goal

pub returns-clause-within : goal.returns-clause-within
returns-clause-within c =
    let v = chunk c.args.at 16 c.args.text.now in
    let long = length-chunk c.args.at 16 c.args.text.now c.requires in
    run_within c.args.text.now c.args.at 16 _ _ c.requires (omega arith) c.type_inv.text c.first_set_bit.ensures _
    (joined _ _ _ v (joined _ _ _ v (joined (λ a b. cond (leb a b) 255 0) _ _ v (splat_is v 16 _ long) (zip2_splat {Y = ℕ} _ v 16 _ long)) (zip2_splat {Y = ℕ} _ v 16 _ long)) (zip2_splat {Y = ℕ} _ v 16 _ long))

pub returns-clause-plain : goal.returns-clause-plain
returns-clause-plain c =
    let v = chunk c.args.at 16 c.args.text.now in
    let long = length-chunk c.args.at 16 c.args.text.now c.requires in
    run_plain c.args.text.now c.args.at 16 _ _ c.requires (omega arith) c.type_inv.text c.first_set_bit.ensures _
    (joined _ _ _ v (joined _ _ _ v (joined (λ a b. cond (leb a b) 255 0) _ _ v (splat_is v 16 _ long) (zip2_splat {Y = ℕ} _ v 16 _ long)) (zip2_splat {Y = ℕ} _ v 16 _ long)) (zip2_splat {Y = ℕ} _ v 16 _ long)) refl
