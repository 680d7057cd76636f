use Rattle.std.proofs.Common.{rules}
use Rattle.pages.proofs.Prints.{prints_nothing}
use Rattle.session_run.proofs.session.Session.begin.Goals as goal

pub returns-in_err-cluster-clause-unprinted : goal.returns-in_err-cluster-clause-unprinted
returns-in_err-cluster-clause-unprinted g c =
    search (rules, prints_nothing {has_printed = g.P.Page.has_printed} c.args.page.now)
