use Rattle.tests_program.proofs.rehearsal.rehearse_session.Goals as goal

pub returns : goal.returns
returns c = rw c.new-session.ensures at c.rehearse.ensures
