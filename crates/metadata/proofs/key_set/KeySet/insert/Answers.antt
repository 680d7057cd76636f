-- The set has one key more.
use Rattle.std.proofs.Common.{◌∙◌, ap, refl}
use Rattle.metadata.specs.Overwrites.{is_listed}
use Rattle.metadata.proofs.KeySets.{listed_inserted}
use Rattle.metadata.proofs.key_set.KeySet.insert.Goals as goal

pub returns : goal.returns
returns c = λ other.
    ap (λ keys. is_listed keys other) c.in_ok-insert.ensures.keys
    ∙ listed_inserted c.self.inside.keys.keys c.in_ok-copy.copy other
    ∙ rw (c.in_ok-copy.ensures, c.self.view_is) refl
