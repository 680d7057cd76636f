-- Each call of the closure keeps what walks need, and drops a piece only if the one before has the same owners.
use Rattle.std.proofs.Common.{◌≡◌, [], refl, rules}
use Rattle.dated_owners.specs.LaterOwners.{needed}
use Rattle.dated_owners.specs.contracts.pieces.fn.sweep.retain as closure
use Rattle.dated_owners.proofs.KeyStarts.{rising_entries}
use Rattle.dated_owners.proofs.JoinedStarts.{swept_by, swept_all, kept_swept}
use Rattle.dated_owners.proofs.pieces.sweep.Goals as goal

pub returns-clause-swept : goal.returns-clause-swept
returns-clause-swept c =
    swept_all (needed c.args.oldest) [] c.args.pieces.now.entries c.retain.new.self.entries
    (swept_by _ (λ v w. w ≡ needed c.args.oldest v) (λ f. (closure.captures f).oldest ≡ c.args.oldest) (λ f. (closure.captures f).is_noted) (λ f. (closure.captures f).spare.now) (λ f k v b w next good t. search rules) _
    c.args.pieces.now.entries c.retain.new.self.entries [] refl (λ _. c.clear.ensures) c.retain.ensures.filtered)

pub returns-clause-kept : goal.returns-clause-kept
returns-clause-kept c = λ kept.
    kept_swept c.args.oldest c.args.pieces.now.entries c.retain.new.self.entries kept (rising_entries c.retain.new.self.entries c.retain.ensures.ordered)
    (swept_all (needed c.args.oldest) [] c.args.pieces.now.entries c.retain.new.self.entries
    (swept_by _ (λ v w. w ≡ needed c.args.oldest v) (λ f. (closure.captures f).oldest ≡ c.args.oldest) (λ f. (closure.captures f).is_noted) (λ f. (closure.captures f).spare.now) (λ f k v b w next good t. search rules) _
    c.args.pieces.now.entries c.retain.new.self.entries [] refl (λ _. c.clear.ensures) c.retain.ensures.filtered))
