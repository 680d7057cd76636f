-- A row is put over the one that is there, and otherwise none is left.
use Rattle.std.proofs.Common.{◌≡◌, refl, ◌∙◌, ap, sym, subst, true, Some, None, Option, ℕ, List}
use Rattle.std.specs.Option.{is_some}
use Rattle.metadata.specs.Overwrites.{has_entry, Displaced, value_back}
use Rattle.metadata.proofs.TakenBack.{one_removed}
use Rattle.metadata.proofs.entry_map.EntryMap.put_back.Goals as goal

pub returns-in-Some : goal.returns-in-Some
returns-in-Some c =
    let last : (c.last.inside.key, Some c.in-Some.row) ≡ c.args.last = ap (λ (row : Option (List ℕ)). let d : Displaced = (c.last.inside.key, row) in d) (sym c.in-Some.is) ∙ c.last.view_is in
    subst (λ (d : Displaced). (is_some d.1 ≡ true → has_entry c.args.self.now d.0 ≡ true) → c.overwrite.new.self ≡ value_back c.args.self.now d.0 d.1) last
    (λ there. c.overwrite.ensures.value (there refl))

pub returns-in-None : goal.returns-in-None
returns-in-None c =
    let last : (c.last.inside.key, None) ≡ c.args.last = ap (λ (row : Option (List ℕ)). let d : Displaced = (c.last.inside.key, row) in d) (sym c.in-None.is) ∙ c.last.view_is in
    subst (λ (d : Displaced). (is_some d.1 ≡ true → has_entry c.args.self.now d.0 ≡ true) → c.remove_key.new.self ≡ value_back c.args.self.now d.0 d.1) last
    (λ there. one_removed c.args.self.now c.remove_key.new.self c.last.inside.key c.remove_key.ensures.was_in_order c.remove_key.ensures.order c.remove_key.ensures.values)
