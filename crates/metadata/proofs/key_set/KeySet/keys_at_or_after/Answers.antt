-- The keys from one on are some of all.
use Rattle.std.proofs.Common.{◌∙◌, ap, sym, List}
use Rattle.system_keys.specs.Keys.{Key}
use Rattle.metadata.specs.Overwrites.{is_listed}
use Rattle.metadata.proofs.KeySets.{listed_some}
use Rattle.metadata.proofs.key_set.KeySet.keys_at_or_after.Goals as goal

pub returns : goal.returns
returns c = λ other listed.
    ap (λ (keys : List Key). is_listed keys other) (sym c.self.view_is)
    ∙ listed_some _ c.self.inside.keys.keys other (ap (λ (keys : List Key). is_listed keys other) (sym (c.range.ensures.between tt)) ∙ listed)
