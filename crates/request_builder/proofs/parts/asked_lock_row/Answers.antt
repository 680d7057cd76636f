-- There is a set for the lock row that has the resolver, or not.
use Rattle.std.proofs.Common.{◌∙◌, sym, ap, Bool, cond, [], ◌∷◌}
use Rattle.system_keys.specs.Keys.{only}
use Rattle.model.specs.Transactions.{locked_key}
use Rattle.request_builder.proofs.AskedPlaces.{lock_row}
use Rattle.request_builder.proofs.parts.asked_lock_row.Goals as goal

pub returns-in_ok-row : goal.returns-in_ok-row
returns-in_ok-row c =
    c.from.ensures
    ∙ c.in_ok-row.ensures
    ∙ ap (λ (t : Bool). cond t (only locked_key ∷ []) []) (sym c.if-is_asked.true)
    ∙ lock_row c.args.resolver (only locked_key) c.args.sets.now c.is_asked.result c.is_asked.ensures

pub returns-else-is_asked : goal.returns-else-is_asked
returns-else-is_asked c =
    c.from-else-is_asked.ensures
    ∙ c.new.ensures.items
    ∙ ap (λ (t : Bool). cond t (only locked_key ∷ []) []) (sym c.if-is_asked.false)
    ∙ lock_row c.args.resolver (only locked_key) c.args.sets.now c.is_asked.result c.is_asked.ensures
