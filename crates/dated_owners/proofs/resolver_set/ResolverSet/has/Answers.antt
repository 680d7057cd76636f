-- A resolver is in the list exactly if it is flagged.
use Rattle.std.proofs.Common.{◌∙◌, sym, ap, ℕ, List, nat_eq}
use Rattle.std.specs.List.{list_any}
use Rattle.dated_owners.proofs.BitFlags.{in_set}
use Rattle.dated_owners.proofs.resolver_set.ResolverSet.has.Goals as goal

pub returns : goal.returns
returns c =
    c.has.ensures
    ∙ sym (in_set c.self.inside.resolvers c.self.inside.flags c.args.resolver c.self.invariant)
    ∙ ap (λ (list : List ℕ). list_any (λ r. nat_eq r c.args.resolver) list) c.self.view_is
