-- Each bit is 1, or none.
use Rattle.std.proofs.Common.{subst, sym, ◌-◌, ◌^◌, Bool}
use Rattle.dated_owners.specs.Flags.{AreAll, flags_of}
use Rattle.dated_owners.proofs.BitFlags.{all_flagged, none_flagged}
use Rattle.dated_owners.proofs.flags.ResolverFlags.all.Goals as goal

pub returns-then-flag : goal.returns-then-flag
returns-then-flag c = subst (λ (flag : Bool). AreAll flag (flags_of (2 ^ 64 - 1))) (sym c.if-flag.true) all_flagged

pub returns-else-flag : goal.returns-else-flag
returns-else-flag c = subst (λ (flag : Bool). AreAll flag (flags_of 0)) (sym c.if-flag.false) none_flagged
