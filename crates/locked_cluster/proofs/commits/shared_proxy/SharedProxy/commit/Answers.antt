-- What failed returned what it was given, which holds the batch.
use Rattle.std.proofs.Common.{◌≡◌, sym, subst, rules}
use Rattle.std.specs.Prelude.{MatchResult, Result, Err}
use Rattle.locked_resolvers.specs.Asking.{IsAskAllRefusal}
use Rattle.locked_cluster.specs.Begun.{BegunView}
use Rattle.locked_cluster.specs.Commits.{HandsBack, HoldsBatch, IsCommitted, TakesProxy}
use Rattle.locked_cluster.proofs.commits.shared_proxy.SharedProxy.commit.Goals as goal

-- what holds of an error holds of the result that is this error
match_err : {T E : Type 0} (P : T → Type 0) (Q : E → Type 0) (result : Result T E) (e : E) → result ≡ Err e → Q e → MatchResult result P Q
match_err {T} {E} P Q result e is holds = subst (λ (r : Result T E). MatchResult r P Q) (sym is) holds

pub returns-in_err-begun : goal.returns-in_err-begun
returns-in_err-begun g c =
    let whose = g.A.Asking.takes c.args.asking.now in
    let fault = c.in_err-begun.field-0.0 in
    let is : c.from_residual.result ≡ Err fault = search rules in
    match_err (λ made. IsCommitted c.args.self.now c.args.batch made.0 made.1 × TakesProxy whose c.args.self.now) (HandsBack g.N.Naming.cells whose c.args.self.now c.args.batch) c.from_residual.result fault is (c.in_err-begun.ensures whose)

pub returns-in-Err : goal.returns-in-Err
returns-in-Err g c =
    let back = c.in-Err.ensures.back in (
      subst (λ (b : BegunView). HoldsBatch c.args.self.now b.row b.records c.args.batch) (sym back) c.in_ok-begun.ensures,
      subst (λ (b : BegunView). IsAskAllRefusal g.N.Naming.cells.config (g.A.Asking.takes c.args.asking.now) b.requests c.in-Err.refusal) (sym back) c.in-Err.ensures.refused,
    )
