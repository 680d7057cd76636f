-- A proxy with one record more keeps what every proxy keeps; and a record that gets this far has no fault.
use Rattle.std.proofs.Common.{◌≡◌, ◌∙◌, ◌+◌, ap, rules, sym, subst, Err, IfErr}
use Rattle.model.specs.Configs.{Config}
use Rattle.model.specs.Finishing.{ProxyView}
use Rattle.proxy_state.specs.Beginning.{refusal_fault, begin_fault}
use Rattle.proxy_state.specs.declared.refusal.Refusal.TheVariants as refusals
use Rattle.proxy_state.proofs.KeptProxies.{kept_begun, no_fault}
use Rattle.proxy_state.proofs.proxy.Proxy.begin_by_map.Goals as goal

pub invariant_of-self-2 : goal.invariant_of-self-2
invariant_of-self-2 c =
    let rec = c.args.rec.now in
    let same = c.self-2.view_is ∙ c.in_ok-requests.ensures.same in
    let config : c.self-2.inside.config ≡ c.args.self.now.config = ap (λ (w : ProxyView). w.config) same in
    let own : rec.own_previous ≡ c.self-2.inside.last_begun =
    sym c.own_previous.ensures ∙ c.if-own_previous-self.false ∙ ap (λ (w : ProxyView). w.last_begun) (c.self.view_is ∙ sym same) in
    let step : rec.version ≡ rec.previous + c.self-2.inside.config.step =
    c.requires.may.version ∙ ap (λ (numbers : Config). rec.previous + numbers.step) (sym config) in
    kept_begun _ _ _ _ _ _ _ _ c.in_ok-begun.begun rec c.in_ok-requests.requests.asked _ _ c.self-2.invariant own c.requires.may.own step c.in_ok-begun.ensures.rec c.in_ok-begun.ensures.asked (search rules) (search rules) (search rules) (search rules)

pub returns-in_err-requests-clause-refused : goal.returns-in_err-requests-clause-refused
returns-in_err-requests-clause-refused c =
    let v = c.args.self.now in
    let rec = c.args.rec.now in
    let is : c.from_residual.result ≡ Err refusals.OutOfMemory = search rules in
    let mine : rec.proxy ≡ v.number = sym c.proxy.ensures ∙ c.if-proxy-self.false ∙ ap (λ (w : ProxyView). w.number) c.self.view_is in
    let follows : rec.own_previous ≡ v.last_begun = sym c.own_previous.ensures ∙ c.if-own_previous-self.false ∙ ap (λ (w : ProxyView). w.last_begun) c.self.view_is in
    subst (λ r. IfErr r (λ refusal. refusal_fault refusal ≡ begin_fault v rec)) (sym is) (sym (no_fault v rec mine follows))

pub returns-in_err-begun-clause-refused : goal.returns-in_err-begun-clause-refused
returns-in_err-begun-clause-refused c =
    let v = c.args.self.now in
    let rec = c.args.rec.now in
    let is : c.from_residual-in_err-begun.result ≡ Err refusals.OutOfMemory = search rules in
    let mine : rec.proxy ≡ v.number = sym c.proxy.ensures ∙ c.if-proxy-self.false ∙ ap (λ (w : ProxyView). w.number) c.self.view_is in
    let follows : rec.own_previous ≡ v.last_begun = sym c.own_previous.ensures ∙ c.if-own_previous-self.false ∙ ap (λ (w : ProxyView). w.last_begun) c.self.view_is in
    subst (λ r. IfErr r (λ refusal. refusal_fault refusal ≡ begin_fault v rec)) (sym is) (sym (no_fault v rec mine follows))

pub returns-in_err-moves-clause-refused : goal.returns-in_err-moves-clause-refused
returns-in_err-moves-clause-refused c =
    let v = c.args.self.now in
    let rec = c.args.rec.now in
    let is : c.from_residual-in_err-moves.result ≡ Err refusals.OutOfMemory = search rules in
    let mine : rec.proxy ≡ v.number = sym c.proxy.ensures ∙ c.if-proxy-self.false ∙ ap (λ (w : ProxyView). w.number) c.self.view_is in
    let follows : rec.own_previous ≡ v.last_begun = sym c.own_previous.ensures ∙ c.if-own_previous-self.false ∙ ap (λ (w : ProxyView). w.last_begun) c.self.view_is in
    subst (λ r. IfErr r (λ refusal. refusal_fault refusal ≡ begin_fault v rec)) (sym is) (sym (no_fault v rec mine follows))
