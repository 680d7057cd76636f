-- The first record of those begun, which follows the version of the proxy.
use Rattle.std.proofs.Common.{◌≡◌, ◌∙◌, sym, ap, map, ◌<◌, ℕ, List, [], ◌∷◌, length, get_or, arith}
use Rattle.model.specs.Configs.{Config}
use Rattle.model.specs.Finishing.{ProxyView}
use Rattle.proxy_state.specs.declared.begun_record.BegunRecord.{BegunRecord}
use Rattle.proxy_state.specs.Begun.{record_of, AreBegun}
use Rattle.proxy_state.specs.Beginning.{IsFirst}
use Rattle.proxy_state.proofs.proxy.Proxy.next_to_finish.Goals as goal

first_of_begun : (begun : List BegunRecord) (x : BegunRecord) → 0 < length begun → x ≡ get_or begun 0 x → IsFirst (map record_of begun) (record_of x)
first_of_begun [] x some is = absurd (omega (arith, some))
first_of_begun (y ∷ ys) x some is = (map record_of ys, ap (λ z. record_of z ∷ map record_of ys) (sym is))

-- the first of the begun records follows the version from which they go on
first_follows : (config : Config) (version last : ℕ) (begun : List BegunRecord) (x : BegunRecord) → AreBegun config version last begun → 0 < length begun → x ≡ get_or begun 0 x → x.rec.own_previous ≡ version
first_follows config version last [] x chain some is = absurd (omega (arith, some))
first_follows config version last (y ∷ ys) x chain some is = ap (λ (z : BegunRecord). z.rec.own_previous) is ∙ chain.0.own_previous

pub returns-in-Some-clause-first : goal.returns-in-Some-clause-first
returns-in-Some-clause-first c =
    let found = first_of_begun c.self.inside.begun.items c.in-Some.begun.now c.in-Some.ensures.item.3.0 c.in-Some.ensures.item.1 in
    (found.0, sym (ap (λ (v : ProxyView). v.begun) c.self.view_is) ∙ found.1)

pub returns-in-Some-clause-own : goal.returns-in-Some-clause-own
returns-in-Some-clause-own c =
    first_follows c.self.inside.config c.self.inside.version c.self.inside.last_begun c.self.inside.begun.items c.in-Some.begun.now c.self.invariant.chain c.in-Some.ensures.item.3.0 c.in-Some.ensures.item.1
    ∙ ap (λ (v : ProxyView). v.version) c.self.view_is
