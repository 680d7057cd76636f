-- The first bits, or all.
use Rattle.std.proofs.Common.{subst, ap, ◌<◌, ◌-◌, ◌*◌, ◌%◌, ◌^◌, List, Bool, bit_and, arith}
use Rattle.std.proofs.lemmas.Nat.{one_shl, pow_pos}
use Rattle.dated_owners.specs.Flags.{flags_of, KeepsFirst}
use Rattle.dated_owners.proofs.BitFlags.{first_kept, all_kept}
use Rattle.dated_owners.proofs.flags.ResolverFlags.first.Goals as goal

pub overflow_sub-mask : goal.overflow_sub-mask
overflow_sub-mask c =
    let n = c.args.resolvers in
    let within : n < 64 = omega (arith, c.if-resolvers-lt-MOST.true) in
    omega (arith, one_shl n 64 within, pow_pos n)

pub returns-then-resolvers-lt-MOST : goal.returns-then-resolvers-lt-MOST
returns-then-resolvers-lt-MOST c =
    let n = c.args.resolvers in
    let within : n < 64 = omega (arith, c.if-resolvers-lt-MOST.true) in
    subst (λ (own : List Bool). KeepsFirst n own (flags_of (bit_and c.self.inside.bits (1 * 2 ^ n % 2 ^ 64 - 1)))) c.self.view_is
    (first_kept c.self.inside.bits n (1 * 2 ^ n % 2 ^ 64 - 1) within (ap (λ k. k - 1) (one_shl n 64 within)))

pub returns-else-resolvers-lt-MOST : goal.returns-else-resolvers-lt-MOST
returns-else-resolvers-lt-MOST c =
    let n = c.args.resolvers in
    subst (λ (own : List Bool). KeepsFirst n own (flags_of c.self.inside.bits)) c.self.view_is
    (all_kept c.self.inside.bits n (omega (arith, c.if-resolvers-lt-MOST.false)))
