-- All tests together say that the request comes next.
use Rattle.std.proofs.Common.{rules, ◌≡◌, ◌<◌, ◌≤◌, ◌∙◌, sym, ap, length, vec_len, arith}
use Rattle.std.proofs.lemmas.Bool.{false≢true, eq-eqb, eqb-true, lt-ltb, ltb-true, le-leb, leb-true}
use Rattle.model.specs.ResolverMemory.{ResolverView}
use Rattle.model.proofs.Resolvers.Answers.{is_next}
use Rattle.state_memory.proofs.Courses.{passes_tests}
use Rattle.state_memory.proofs.JudgedRequests.{place_within}
use Rattle.state_memory.proofs.resolver.Resolver.comes_next.Goals as goal
use Rattle.state_memory.proofs.resolver.Resolver.comes_next.Goals.{then-resolver-self, else-resolver-self, then-proxy-len, else-proxy-len, then-last_received-previous, else-last_received-previous}

pub returns-then-previous-version : goal.returns-then-previous-version
returns-then-previous-version c =
    let number = ap (λ (v : ResolverView). v.number) c.self.view_is in
    let version = ap (λ (v : ResolverView). v.version) c.self.view_is in
    let many : vec_len c.self.inside.proxies ≡ length c.self.inside.proxies.items = search rules in
    let place = c.previous-then-previous-version in (
      λ same.
          elim c.if-last_received-previous.branch [
            | else-last_received-previous w3 ↦ absurd (false≢true (sym w3.if-last_received-previous.false ∙ sym w3.value-is ∙ c.if-previous-version.true))
            | then-last_received-previous w3 ↦
                elim c.if-proxy-len.branch [
                  | else-proxy-len w2 ↦ absurd (false≢true (sym w2.if-proxy-len.false ∙ sym w2.value-is ∙ w3.if-last_received-previous.true))
                  | then-proxy-len w2 ↦
                      elim c.if-resolver-self.branch [
                        | else-resolver-self w1 ↦ absurd (w1.if-resolver-self.false (eqb-true _ _ (sym w1.value-is ∙ w2.if-proxy-len.true)))
                        | then-resolver-self w1 ↦
                            let within : w1.proxy.result < w1.len.result = ltb-true _ _ (sym w1.value-is ∙ w2.if-proxy-len.true) in
                            let received : w2.last_received.result ≤ w2.previous.result = leb-true _ _ (sym w2.value-is ∙ w3.if-last_received-previous.true) in
                            let above : w3.previous-then-last_received-previous.result < w3.version.result = ltb-true _ _ (sym w3.value-is ∙ c.if-previous-version.true) in
                            passes_tests c.args.self.now c.args.request.now c.self.inside.proxies.items (ap (λ (v : ResolverView). v.proxies) c.self.view_is)
                            (sym c.resolver.ensures ∙ w1.if-resolver-self.true ∙ number)
                            (omega (arith, within, many, w1.proxy.ensures, w1.len.ensures))
                            (omega (arith, received, w2.last_received.ensures, w2.previous.ensures))
                            (omega (arith, above, w3.previous-then-last_received-previous.ensures, w3.version.ensures))
                            (sym place.ensures ∙ eqb-true _ _ same ∙ version)
                      ]
                ]
          ],
      λ is. let next = is_next c.args.self.now c.args.request.now is in eq-eqb _ _ (place.ensures ∙ next.chained ∙ sym version),
    )

pub returns-else-previous-version : goal.returns-else-previous-version
returns-else-previous-version c = (
  λ right. absurd (false≢true (sym c.if-previous-version.false ∙ right)),
  λ is.
      let next = is_next c.args.self.now c.args.request.now is in
      let place = place_within c.args.self.now c.args.request.now c.self.inside.proxies.items is (ap (λ (v : ResolverView). v.proxies) c.self.view_is) in
      let many : vec_len c.self.inside.proxies ≡ length c.self.inside.proxies.items = search rules in
      elim c.if-last_received-previous.branch [
        | then-last_received-previous w3 ↦
            let above : w3.previous-then-last_received-previous.result < w3.version.result = omega (arith, next.above, w3.previous-then-last_received-previous.ensures, w3.version.ensures) in
            w3.value-is ∙ lt-ltb _ _ above
        | else-last_received-previous w3 ↦
            elim c.if-proxy-len.branch [
              | then-proxy-len w2 ↦
                  let received : w2.last_received.result ≤ w2.previous.result = omega (arith, next.received, w2.last_received.ensures, w2.previous.ensures) in
                  absurd (false≢true (sym w3.if-last_received-previous.false ∙ w2.value-is ∙ le-leb _ _ received))
              | else-proxy-len w2 ↦
                  elim c.if-resolver-self.branch [
                    | then-resolver-self w1 ↦
                        let within : w1.proxy.result < w1.len.result = omega (arith, place, many, w1.proxy.ensures, w1.len.ensures) in
                        absurd (false≢true (sym w2.if-proxy-len.false ∙ w1.value-is ∙ lt-ltb _ _ within))
                    | else-resolver-self w1 ↦ absurd (w1.if-resolver-self.false (c.resolver.ensures ∙ next.own ∙ sym (ap (λ (v : ResolverView). v.number) c.self.view_is)))
                  ]
            ]
      ],
)
