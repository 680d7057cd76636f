-- Test by test.
use Rattle.std.proofs.Common.{◌∙◌, sym, ap, subst, arith}
use Rattle.system_keys.specs.AsSpecified.{IsAsSpecified}
use Rattle.model.specs.ResolverMemory.{ResolverView}
use Rattle.state_memory.specs.Answers.{fault_of, course_of}
use Rattle.state_memory.specs.Kept.{all_kept}
use Rattle.state_memory.proofs.Courses.{refused_resolver, refused_proxy, known, known_wrong, known_again, known_early, known_late, known_next, not_risen, received_later, in_order}
use Rattle.state_memory.proofs.JudgedRequests.{kept_replies_increase}
use Rattle.state_memory.proofs.KeptLaws.{kept_there}
use Rattle.state_memory.proofs.resolver.Resolver.decide.Goals as goal
use Rattle.state_memory.proofs.resolver.Resolver.decide.Goals.{then-version-previous-via-then-version-previous, then-version-previous-via-else-version-previous+then-previous-last_received}

pub returns-then-resolver-self : goal.returns-then-resolver-self
returns-then-resolver-self c = refused_resolver c.args.self.now c.args.request.now c.resolver.result c.self.inside.number c.resolver.ensures (ap (λ (v : ResolverView). v.number) c.self.view_is) c.if-resolver-self.true

pub returns-in_default : goal.returns-in_default
returns-in_default c =
    refused_proxy c.args.self.now c.args.request.now c.resolver.result c.self.inside.number c.proxy.result c.deref.result.now c.resolver.ensures (ap (λ (v : ResolverView). v.number) c.self.view_is) c.if-resolver-self.false c.proxy.ensures (ap all_kept c.deref.ensures.value ∙ ap (λ (v : ResolverView). v.proxies) c.self.view_is) c.in_default.ensures.lookup.3

pub decide_repeat-requires : goal.decide_repeat-requires
decide_repeat-requires c =
    kept_replies_increase c.self.inside.version c.self.inside.rows.items _ c.deref.result.now c.self.invariant.1 (ap all_kept c.deref.ensures.value) c.proxy.result _ (kept_there c.deref.result.now c.proxy.result c.in-Some.proxy.now c.in-Some.ensures.lookup.3.0 c.in-Some.ensures.lookup.1)

pub returns-then-version-previous : goal.returns-then-version-previous
returns-then-version-previous c =
    known_wrong c.args.self.now c.args.request.now c.in-Some.proxy.now c.self.inside.version (known c.args.self.now c.args.request.now c.resolver.result c.self.inside.number c.proxy.result c.deref.result.now c.in-Some.proxy.now c.resolver.ensures (ap (λ (v : ResolverView). v.number) c.self.view_is) c.if-resolver-self.false c.proxy.ensures (ap all_kept c.deref.ensures.value ∙ ap (λ (v : ResolverView). v.proxies) c.self.view_is) c.in-Some.ensures.lookup.3.0 c.in-Some.ensures.lookup.1) (ap (λ (v : ResolverView). v.version) c.self.view_is)
    (elim c.then-version-previous.branch [
      | then-version-previous-via-then-version-previous w ↦ not_risen c.args.request.now (omega (arith, c.version.ensures, c.previous.ensures, w.if-version-previous.true))
      | then-version-previous-via-else-version-previous+then-previous-last_received w ↦ received_later c.args.request.now (omega (arith, w.previous-else-version-previous.ensures, w.last_received.ensures, w.if-previous-last_received.true))
    ])

pub returns-then-version : goal.returns-then-version
returns-then-version c =
    subst (λ specified. IsAsSpecified fault_of course_of c.decide_repeat.result specified)
    (sym (known_again c.args.self.now c.args.request.now c.in-Some.proxy.now c.self.inside.version c.version-then-version.result (known c.args.self.now c.args.request.now c.resolver.result c.self.inside.number c.proxy.result c.deref.result.now c.in-Some.proxy.now c.resolver.ensures (ap (λ (v : ResolverView). v.number) c.self.view_is) c.if-resolver-self.false c.proxy.ensures (ap all_kept c.deref.ensures.value ∙ ap (λ (v : ResolverView). v.proxies) c.self.view_is) c.in-Some.ensures.lookup.3.0 c.in-Some.ensures.lookup.1) (ap (λ (v : ResolverView). v.version) c.self.view_is) c.version-then-version.ensures (in_order c.args.request.now (omega (arith, c.version.ensures, c.previous.ensures, c.if-version-previous.false)) (omega (arith, c.previous-else-version-previous.ensures, c.last_received.ensures, c.if-previous-last_received.false))) (omega (arith, c.version-2.ensures, c.version-then-version.ensures, c.if-version.true))))
    c.decide_repeat.ensures

pub returns-then-version-previous-2 : goal.returns-then-version-previous-2
returns-then-version-previous-2 c =
    known_early c.args.self.now c.args.request.now c.in-Some.proxy.now c.self.inside.version (known c.args.self.now c.args.request.now c.resolver.result c.self.inside.number c.proxy.result c.deref.result.now c.in-Some.proxy.now c.resolver.ensures (ap (λ (v : ResolverView). v.number) c.self.view_is) c.if-resolver-self.false c.proxy.ensures (ap all_kept c.deref.ensures.value ∙ ap (λ (v : ResolverView). v.proxies) c.self.view_is) c.in-Some.ensures.lookup.3.0 c.in-Some.ensures.lookup.1) (ap (λ (v : ResolverView). v.version) c.self.view_is) (in_order c.args.request.now (omega (arith, c.version.ensures, c.previous.ensures, c.if-version-previous.false)) (omega (arith, c.previous-else-version-previous.ensures, c.last_received.ensures, c.if-previous-last_received.false))) (omega (arith, c.version-2.ensures, c.if-version.false)) (omega (arith, c.previous-2.ensures, c.if-version-previous-2.true))

pub returns-then-previous-version : goal.returns-then-previous-version
returns-then-previous-version c =
    known_late c.args.self.now c.args.request.now c.in-Some.proxy.now c.self.inside.version (known c.args.self.now c.args.request.now c.resolver.result c.self.inside.number c.proxy.result c.deref.result.now c.in-Some.proxy.now c.resolver.ensures (ap (λ (v : ResolverView). v.number) c.self.view_is) c.if-resolver-self.false c.proxy.ensures (ap all_kept c.deref.ensures.value ∙ ap (λ (v : ResolverView). v.proxies) c.self.view_is) c.in-Some.ensures.lookup.3.0 c.in-Some.ensures.lookup.1) (ap (λ (v : ResolverView). v.version) c.self.view_is) (in_order c.args.request.now (omega (arith, c.version.ensures, c.previous.ensures, c.if-version-previous.false)) (omega (arith, c.previous-else-version-previous.ensures, c.last_received.ensures, c.if-previous-last_received.false))) (omega (arith, c.version-2.ensures, c.if-version.false)) (omega (arith, c.previous-3.ensures, c.if-previous-version.true))

pub returns : goal.returns
returns c =
    known_next c.args.self.now c.args.request.now c.in-Some.proxy.now c.self.inside.version (known c.args.self.now c.args.request.now c.resolver.result c.self.inside.number c.proxy.result c.deref.result.now c.in-Some.proxy.now c.resolver.ensures (ap (λ (v : ResolverView). v.number) c.self.view_is) c.if-resolver-self.false c.proxy.ensures (ap all_kept c.deref.ensures.value ∙ ap (λ (v : ResolverView). v.proxies) c.self.view_is) c.in-Some.ensures.lookup.3.0 c.in-Some.ensures.lookup.1) (ap (λ (v : ResolverView). v.version) c.self.view_is) (in_order c.args.request.now (omega (arith, c.version.ensures, c.previous.ensures, c.if-version-previous.false)) (omega (arith, c.previous-else-version-previous.ensures, c.last_received.ensures, c.if-previous-last_received.false))) (omega (arith, c.version-2.ensures, c.if-version.false)) (omega (arith, c.previous-2.ensures, c.if-version-previous-2.false, c.previous-3.ensures, c.if-previous-version.false))
