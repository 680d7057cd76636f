-- The bits of both.
use Rattle.std.proofs.Common.{subst, List, Bool, bit_or}
use Rattle.dated_owners.specs.Flags.{is_flagged, flags_of, Flags}
use Rattle.dated_owners.proofs.BitFlags.{both_flagged}
use Rattle.dated_owners.proofs.flags.ResolverFlags.add.Goals as goal

pub returns : goal.returns
returns c =
    let bits = bit_or c.self.inside.bits c.other.inside.bits in
    subst (λ (own : List Bool). Flags own (is_flagged c.args.other.now) (flags_of bits)) c.self.view_is
    (subst (λ (others : List Bool). Flags (flags_of c.self.inside.bits) (is_flagged others) (flags_of bits)) c.other.view_is (both_flagged c.self.inside.bits c.other.inside.bits))
