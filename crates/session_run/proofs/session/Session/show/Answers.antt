use Rattle.session_run.proofs.session.Session.show.Goals as goal

pub returns-in-Some-clause-text : goal.returns-in-Some-clause-text
returns-in-Some-clause-text g c = rw c.in-Some.is c.print_show.ensures.text

pub returns-in-None-clause-text : goal.returns-in-None-clause-text
returns-in-None-clause-text g c = rw c.in-None.is c.print_no_cluster.ensures
