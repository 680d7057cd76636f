-- A short key is its own front.
use Rattle.std.proofs.Common.{◌∙◌, ap}
use Rattle.metadata.specs.Overwrites.{is_listed}
use Rattle.metadata.proofs.key_set.KeySet.contains_short.Goals as goal

pub returns : goal.returns
returns c = c.contains.ensures ∙ ap (is_listed c.args.self.now) (c.front_of-whole.ensures.short c.requires)
