-- Each part of the routing is read from the rows.
use Rattle.std.proofs.Common.{refl}
use Rattle.model.specs.Metadata.{routing}
use Rattle.metadata.proofs.metadata.Metadata.routing.Goals as goal

pub returns : goal.returns
unfolding routing
returns c = rw (c.is_locked.ensures, c.in_ok-metadata_version.ensures, c.in_ok-list.ensures, c.routes.ensures, c.self.view_is) refl
