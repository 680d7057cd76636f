-- A copy has the same value, and keeps what the proxy keeps.
use Rattle.std.proofs.Common.{◌≡◌, ◌∙◌, map, rules}
use Rattle.proxy_state.specs.Begun.{record_of}
use Rattle.proxy_state.proofs.KeptProxies.{kept_copy, clones_same}
use Rattle.proxy_state.proofs.proxy.Proxy.copy.Goals as goal

pub invariant_of-result : goal.invariant_of-result
invariant_of-result c =
    kept_copy _ _ _ _ _ _ _ _ _ _ _ c.self.invariant (search rules) (clones_same c.self.inside.begun.items c.in_ok-clone.field-0.items c.in_ok-clone.ensures.cases.0) (search rules) (search rules)

pub returns : goal.returns
returns c =
    let owned : c.in_ok-copy.field-0 ≡ c.self.inside.owners = search rules in
    let begun : c.in_ok-clone.field-0.items ≡ c.self.inside.begun.items = clones_same c.self.inside.begun.items c.in_ok-clone.field-0.items c.in_ok-clone.ensures.cases.0 in
    let journal : c.in_ok-copy_journal.field-0.items ≡ c.self.inside.journal.items = search rules in
    (λ i. record {
      number = c.self.inside.number;
      config = c.self.inside.config;
      owned = owned i;
      moved = c.self.inside.moved;
      last_begun = c.self.inside.last_begun;
      begun = map record_of (begun i);
      version = c.self.inside.version;
      journal = journal i;
    })
    ∙ c.self.view_is
