use Rattle.std.proofs.Common.{refl}
use Rattle.std.specs.Fmt.{digits}
use Rattle.pages.proofs.Prints.{prints_as}
use Rattle.session_run.proofs.session.print_no_cluster.Goals as goal

pub returns : goal.returns
unfolding digits
returns g c = prints_as c.push.ensures refl
