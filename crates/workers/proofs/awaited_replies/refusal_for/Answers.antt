-- The request is the one that was refused.
use Rattle.std.specs.Prelude.{Bool, MatchBool}
use Rattle.std.proofs.Common.{◌≡◌, ◌≢◌, ap, sym, ◌∙◌, subst}
use Rattle.locked_resolvers.specs.Asking.{IsAskRefusal}
use Rattle.locked_resolvers.specs.Requests.{RequestView}
use Rattle.workers.proofs.awaited_replies.refusal_for.Goals as goal

pub returns-then-is_same_request-clause-kept : goal.returns-then-is_same_request-clause-kept
returns-then-is_same_request-clause-kept g c =
    let config = g.N.Naming.cells.config in
    let refused = c.args.refused.now in
    let same : refused.request ≡ c.args.request.now = sym c.request.ensures ∙ subst (λ (t : Bool). MatchBool t (c.request.result.now ≡ c.args.request.now) (c.request.result.now.plain ≢ c.args.request.now.plain)) c.if-is_same_request.true c.is_same_request.ensures in
    subst (IsAskRefusal config c.args.request.now) (sym c.refusal.ensures.value) (subst (λ (q : RequestView). IsAskRefusal config q refused.refusal) same c.refusal.ensures.kept)

pub returns-else-is_same_request-clause-given : goal.returns-else-is_same_request-clause-given
returns-else-is_same_request-clause-given g c =
    let refused = c.args.refused.now in
    let asked = c.args.request.now in
    let apart = subst (λ (t : Bool). MatchBool t (c.request.result.now ≡ asked) (c.request.result.now.plain ≢ asked.plain)) c.if-is_same_request.false c.is_same_request.ensures in
    subst (λ (q : RequestView). q.plain ≢ asked.plain) c.request.ensures apart
