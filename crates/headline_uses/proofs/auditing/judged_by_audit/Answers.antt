-- Resolvers that have reached the proxy's version have their verdicts on the proxy's records. After a
-- failed audit these are those before the first that is behind.
use Rattle.std.proofs.Common.{◌∙◌, sym, subst, ℕ, List, take}
use Rattle.std.specs.Prelude.{Result, Ok, Err, MatchResult}
use Rattle.model.specs.Configs.{Config}
use Rattle.locked_cluster.specs.Audits.{HaveReached, IsFirstBehind, reached_records}
use Rattle.locked_cluster.specs.Proxies.{LockedProxyView}
use Rattle.locked_cluster.specs.declared.audits.behind_by.BehindBy.{BehindBy}
use Rattle.locked_resolvers.specs.Resolvers.{LockedResolverView}
use Rattle.headline_uses.specs.Resolvers.{AreInOrder}
use Rattle.headline_uses.specs.Verdicts.{HaveJudged}
use Rattle.headline_uses.proofs.JudgedCells.{has_verdicts}
use Rattle.headline_uses.proofs.auditing.judged_by_audit.Goals as goal

-- each resolver that has reached the proxy's version has its verdicts
have_judged : (config : Config) (v : LockedProxyView) (resolvers : List LockedResolverView) → HaveReached config v resolvers → HaveJudged config (reached_records v) resolvers
have_judged config v resolvers reached place resolver there =
    let one = reached place resolver there in
    has_verdicts config (reached_records v) resolver.memory.number resolver.column one.cells one.verdicts

-- by what the audit found
by : {T : Type 0} (config : Config) (v : LockedProxyView) (resolvers : List LockedResolverView) (result : Result T BehindBy)
    → MatchResult result (λ _. HaveReached config v resolvers) (IsFirstBehind config v resolvers)
    → MatchResult result (λ _. HaveJudged config (reached_records v) resolvers) (λ behind. AreInOrder resolvers → HaveJudged config (reached_records v) (take behind.resolver resolvers))
by config v resolvers (Ok done) reached = have_judged config v resolvers reached
by config v resolvers (Err behind) is = λ ordered.
    subst (λ (n : ℕ). HaveJudged config (reached_records v) (take n resolvers)) (sym (is.number ∙ ordered is.place is.resolver is.there))
    (have_judged config v (take is.place resolvers) is.sooner)

pub returns : goal.returns
returns g c = by g.N.Naming.cells.config c.args.proxy.now c.args.resolvers.now c.audit.result c.audit.ensures.reached
