-- The set has one key less.
use Rattle.std.proofs.Common.{◌∙◌, ap, not, ◌&&◌, List}
use Rattle.system_keys.specs.Keys.{Key}
use Rattle.metadata.specs.Overwrites.{is_same_key, is_listed}
use Rattle.metadata.proofs.KeySets.{listed_removed}
use Rattle.metadata.proofs.key_set.KeySet.remove.Goals as goal

pub returns : goal.returns
returns c = λ other.
    ap (λ keys. is_listed keys other) c.remove.ensures.keys
    ∙ listed_removed c.self.inside.keys.keys c.args.key.now other c.len-count.ensures.ordered
    ∙ ap (λ (keys : List Key). not (is_same_key other c.args.key.now) && is_listed keys other) c.self.view_is
