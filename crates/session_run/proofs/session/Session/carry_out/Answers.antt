use Rattle.std.proofs.Common.{ap}
use Rattle.std.specs.Prelude.{Some}
use Rattle.std.proofs.lemmas.Result.{on_err_weaker, on_ok_weaker}
use Rattle.model.specs.Turns.{TurnCluster}
use Rattle.session_run.proofs.session.Session.carry_out.Goals as goal

pub returns-in-Some-clause-text : goal.returns-in-Some-clause-text
returns-in-Some-clause-text g c = rw c.in-Some.is c.carry_out.ensures.text

pub returns-in-Some-clause-ok : goal.returns-in-Some-clause-ok
returns-in-Some-clause-ok g c =
    rw c.in-Some.is (on_ok_weaker c.carry_out.result (λ after. ap (λ (cluster : TurnCluster). Some cluster) after) c.carry_out.ensures.world)

pub returns-in-Some-clause-unchanged : goal.returns-in-Some-clause-unchanged
returns-in-Some-clause-unchanged g c =
    rw c.in-Some.is (on_err_weaker c.carry_out.result (λ same. ap (λ (cluster : TurnCluster). Some cluster) same) c.carry_out.ensures.unchanged)

pub returns-in-None-clause-text : goal.returns-in-None-clause-text
returns-in-None-clause-text g c = rw c.in-None.is c.print_no_cluster.ensures

pub returns-in-None-clause-ok : goal.returns-in-None-clause-ok
returns-in-None-clause-ok g c = rw c.in-None.is
