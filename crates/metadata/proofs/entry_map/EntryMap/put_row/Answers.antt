-- An insertion into the map is one into its entries, and what stood there is added to what was displaced.
use Rattle.std.proofs.Common.{◌≡◌, ◌∙◌, ◌++◌, ◌∷◌, [], ap, subst, List, ℕ, Option}
use Rattle.std.specs.BTreeMap.{insert_entry}
use Rattle.model.specs.Metadata.{Entries, IsInOrder, entry_value}
use Rattle.metadata.specs.Overwrites.{Displaced}
use Rattle.metadata.proofs.KeyValues.{key_cmp}
use Rattle.metadata.proofs.entry_map.EntryMap.put_row.Goals as goal

pub invariant_of-self-2 : goal.invariant_of-self-2
invariant_of-self-2 c = c.insert.ensures.ordered

pub returns-clause-ok : goal.returns-clause-ok
returns-clause-ok c =
    c.in_ok-old_row.ensures.entries
    ∙ ap (λ (entries : Entries). insert_entry key_cmp entries c.args.key c.in_ok-row.row) c.self.view_is
    ∙ ap (insert_entry key_cmp c.args.self.now c.args.key) c.in_ok-row.ensures

pub returns-clause-displaced : goal.returns-clause-displaced
returns-clause-displaced c =
    let was : c.in_ok-old_row.old_row ≡ entry_value c.args.self.now c.args.key =
    c.in_ok-old_row.ensures.old ∙ ap (λ (entries : Entries). entry_value entries c.args.key) c.self.view_is in
    c.add_displaced.ensures
    ∙ ap (λ (first : List Displaced). first ++ (c.in_ok-copy.copy, c.in_ok-old_row.old_row) ∷ []) c.reserve.ensures.items
    ∙ ap (λ (at : List ℕ). c.args.displaced.now.items ++ (at, c.in_ok-old_row.old_row) ∷ []) c.in_ok-copy.ensures
    ∙ ap (λ (found : Option (List ℕ)). c.args.displaced.now.items ++ (c.args.key, found) ∷ []) was

pub returns-clause-order : goal.returns-clause-order
returns-clause-order c = c.insert.ensures.ordered

pub returns-clause-was_in_order : goal.returns-clause-was_in_order
returns-clause-was_in_order c = subst IsInOrder c.self.view_is c.self.invariant
