-- What is lent is what is kept, which the value names.
use Rattle.std.proofs.Common.{◌≡◌, subst, List, ℕ}
use Rattle.std.specs.Prelude.{IfSome}
use Rattle.metadata.specs.CachedTags.{Names, names_by}
use Rattle.metadata.proofs.Outcomes.{lent_some}
use Rattle.metadata.proofs.row.Row.names.Goals as goal

pub returns : goal.returns
returns c =
    lent_some (λ (names : Names). names ≡ names_by c.args.self.now) c.as_ref.result c.self.inside.names c.as_ref.ensures.value
    (subst (λ (value : List ℕ). IfSome c.self.inside.names (λ (names : Names). names ≡ names_by value)) c.self.view_is c.self.invariant)
