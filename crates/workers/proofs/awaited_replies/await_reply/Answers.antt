-- Some resolver of the cluster that is closed refuses the request.
use Rattle.std.proofs.Common.{rules}
use Rattle.model.specs.Configs.{IsConfig}
use Rattle.workers.proofs.RefusedLemmas.{closed_asked}
use Rattle.workers.proofs.awaited_replies.await_reply.Goals as goal

pub returns-in_default-clause-refused : goal.returns-in_default-clause-refused
returns-in_default-clause-refused g c =
    let limits : IsConfig g.N.Naming.cells.config = search rules in
    closed_asked g.N.Naming.cells.config c.args.request.now limits c.plain-plain.ensures.kept.resolver
