use Rattle.model.proofs.Metadata.PrivateCopies.{keys_copy_is, tag_copy_is, other_copy, cleared_copy}
use Rattle.model.proofs.laws.metadata.private_copy_law.Goals as goal

pub returns : goal.returns
returns c = record { server_keys = keys_copy_is; server_tag = tag_copy_is; other = other_copy; cleared = cleared_copy }
