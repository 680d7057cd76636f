use Rattle.std.proofs.Common.{rules}
use Rattle.model.specs.Metadata.{tags}
use Rattle.metadata.proofs.tagging.tags_of.Goals as goal

pub returns-in-Set : goal.returns-in-Set
unfolding tags
returns-in-Set c = search rules
