-- A look-up in the set is one among its keys.
use Rattle.std.proofs.Common.{◌∙◌, ap, List}
use Rattle.system_keys.specs.Keys.{Key}
use Rattle.metadata.specs.Overwrites.{is_listed}
use Rattle.metadata.proofs.key_set.KeySet.contains.Goals as goal

pub returns : goal.returns
returns c = c.contains.ensures ∙ ap (λ (keys : List Key). is_listed keys c.args.key.now) c.self.view_is
