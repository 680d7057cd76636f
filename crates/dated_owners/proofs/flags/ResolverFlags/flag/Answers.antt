-- One bit more is 1, or there is none for the resolver.
use Rattle.std.proofs.Common.{subst, List, Bool, ◌*◌, ◌%◌, ◌^◌, nat_eq, bit_or, arith}
use Rattle.dated_owners.specs.Flags.{flags_of, Flags}
use Rattle.dated_owners.proofs.BitFlags.{one_flagged, past_flagged}
use Rattle.dated_owners.proofs.flags.ResolverFlags.flag.Goals as goal

pub returns-then-resolver-lt-MOST : goal.returns-then-resolver-lt-MOST
returns-then-resolver-lt-MOST c =
    let bits = c.self.inside.bits in
    let k = c.args.resolver in
    subst (λ (own : List Bool). Flags own (λ r. nat_eq k r) (flags_of (bit_or bits (1 * 2 ^ k % 2 ^ 64)))) c.self.view_is
    (one_flagged bits k (omega (arith, c.if-resolver-lt-MOST.true)))

pub returns-else-resolver-lt-MOST : goal.returns-else-resolver-lt-MOST
returns-else-resolver-lt-MOST c =
    let k = c.args.resolver in
    subst (λ (own : List Bool). Flags own (λ r. nat_eq k r) own) c.self.view_is
    (past_flagged c.self.inside.bits k (omega (arith, c.if-resolver-lt-MOST.false)))
