-- Those that are flagged are those of the list.
use Rattle.std.proofs.Common.{◌∙◌, sym, ap, ℕ, List, nat_eq}
use Rattle.std.specs.List.{list_any}
use Rattle.dated_owners.specs.Flags.{is_flagged}
use Rattle.dated_owners.proofs.FlagLaws.{flags_alike}
use Rattle.dated_owners.proofs.BitFlags.{in_set}
use Rattle.dated_owners.proofs.resolver_set.ResolverSet.flag_in.Goals as goal

pub returns : goal.returns
returns c =
    let in_list = λ (list : List ℕ) (r : ℕ). list_any (λ a. nat_eq a r) list in
    flags_alike c.args.flags.now c.add.new.self (is_flagged c.self.inside.flags) (in_list c.args.self.now) c.add.ensures
    (λ r. sym (in_set c.self.inside.resolvers c.self.inside.flags r c.self.invariant) ∙ ap (λ (list : List ℕ). in_list list r) c.self.view_is)
