-- The bit of the resolver, if there is one.
use Rattle.std.proofs.Common.{◌∙◌, sym, ap, List, Bool, nat_eq, arith}
use Rattle.std.proofs.lemmas.Bool.{le-ltb}
use Rattle.std.proofs.lemmas.Nat.Bits.{shr_and_one}
use Rattle.dated_owners.specs.Flags.{is_flagged}
use Rattle.dated_owners.proofs.BitFlags.{flag_is, none_past}
use Rattle.dated_owners.proofs.flags.ResolverFlags.has.Goals as goal

pub returns-then-resolver-lt-MOST : goal.returns-then-resolver-lt-MOST
returns-then-resolver-lt-MOST c =
    ap (λ n. nat_eq n 1) (shr_and_one c.self.inside.bits c.args.resolver)
    ∙ sym (flag_is c.self.inside.bits c.args.resolver (omega (arith, c.if-resolver-lt-MOST.true)))
    ∙ ap (λ (flags : List Bool). is_flagged flags c.args.resolver) c.self.view_is

pub returns-else-resolver-lt-MOST : goal.returns-else-resolver-lt-MOST
returns-else-resolver-lt-MOST c =
    le-ltb c.args.resolver 64 (omega (arith, c.if-resolver-lt-MOST.false))
    ∙ sym (none_past c.self.inside.bits c.args.resolver (omega (arith, c.if-resolver-lt-MOST.false)))
    ∙ ap (λ (flags : List Bool). is_flagged flags c.args.resolver) c.self.view_is
