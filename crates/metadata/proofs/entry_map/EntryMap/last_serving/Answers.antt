-- The last entry up to the key is the last keyServers entry up to it, or there is no such entry.
use Rattle.std.proofs.Common.{◌≡◌, ◌∙◌, ap, sym, subst, filter, None, true, false, rules}
use Rattle.std.specs.List.{last_or}
use Rattle.system_keys.specs.Families.{key_servers_family, is_in}
use Rattle.model.specs.Metadata.{Entries, IsInOrder}
use Rattle.metadata.specs.MapEntries.{is_serving_up_to}
use Rattle.metadata.proofs.LastServing.{last_own, last_other, last_missing}
use Rattle.metadata.proofs.entry_map.EntryMap.last_serving.Goals as goal

pub returns-in_default-clause-found : goal.returns-in_default-clause-found
returns-in_default-clause-found c =
    last_missing c.self.inside.values.entries c.in_ok-greatest.greatest c.args.key.now c.in_ok-greatest.ensures (sym (c.range.ensures.between tt) ∙ c.in_default.ensures.steps.0)
    ∙ ap (λ (entries : Entries). last_or None (filter (is_serving_up_to c.args.key.now) entries)) c.self.view_is

pub returns-then-not-is_key_servers-clause-found : goal.returns-then-not-is_key_servers-clause-found
returns-then-not-is_key_servers-clause-found c =
    let out : is_in key_servers_family c.in-Some.found.now ≡ false = search rules in
    last_other c.self.inside.values.entries c.next_back.new.self (c.in-Some.found.now, c.in-Some.row.now) c.in_ok-greatest.greatest c.args.key.now c.self.invariant c.in_ok-greatest.ensures (sym (c.range.ensures.between tt) ∙ c.in-Some.ensures.steps) out
    ∙ ap (λ (entries : Entries). last_or None (filter (is_serving_up_to c.args.key.now) entries)) c.self.view_is

pub returns-clause-found : goal.returns-clause-found
returns-clause-found c =
    let own : is_in key_servers_family c.in-Some.found.now ≡ true = search rules in
    last_own c.self.inside.values.entries c.next_back.new.self (c.in-Some.found.now, c.in-Some.row.now) c.in_ok-greatest.greatest c.args.key.now c.in_ok-greatest.ensures (sym (c.range.ensures.between tt) ∙ c.in-Some.ensures.steps) own
    ∙ ap (λ (entries : Entries). last_or None (filter (is_serving_up_to c.args.key.now) entries)) c.self.view_is

pub returns-in_default-clause-order : goal.returns-in_default-clause-order
returns-in_default-clause-order c = subst IsInOrder c.self.view_is c.self.invariant

pub returns-then-not-is_key_servers-clause-order : goal.returns-then-not-is_key_servers-clause-order
returns-then-not-is_key_servers-clause-order c = subst IsInOrder c.self.view_is c.self.invariant

pub returns-clause-order : goal.returns-clause-order
returns-clause-order c = subst IsInOrder c.self.view_is c.self.invariant
