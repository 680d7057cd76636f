-- Each call of the closure merges the owners of a piece, and drops it only if the one before has the same.
use Rattle.std.proofs.Common.{[], refl, rules}
use Rattle.dated_owners.specs.MergedOwners.{IsMerged}
use Rattle.dated_owners.proofs.KeyStarts.{rising_entries}
use Rattle.dated_owners.proofs.MergedOwnerLaws.{merged_same}
use Rattle.dated_owners.proofs.JoinedStarts.{swept_by, value_swept, last_swept}
use Rattle.dated_owners.specs.contracts.pieces.fn.merge.retain as closure
use Rattle.dated_owners.proofs.pieces.merge.Goals as goal

pub returns-clause-walks : goal.returns-clause-walks
returns-clause-walks c = λ kept key.
    (value_swept IsMerged [] c.args.pieces.now.entries c.retain.new.self.entries key (merged_same [] [] refl) kept.rising (rising_entries c.retain.new.self.entries c.retain.ensures.ordered)
    (swept_by _ IsMerged (λ f. Unit {0}) (λ f. (closure.captures f).is_noted) (λ f. (closure.captures f).spare.now) (λ f k v b w next good t. search rules) _
    c.args.pieces.now.entries c.retain.new.self.entries [] tt (λ _. c.clear.ensures) c.retain.ensures.filtered)).walks

pub returns-clause-kept : goal.returns-clause-kept
returns-clause-kept c = λ kept.
    record {
      rising = rising_entries c.retain.new.self.entries c.retain.ensures.ordered;
      none_past =
          (last_swept IsMerged [] c.args.pieces.now.entries c.retain.new.self.entries (merged_same [] [] refl)
          (swept_by _ IsMerged (λ f. Unit {0}) (λ f. (closure.captures f).is_noted) (λ f. (closure.captures f).spare.now) (λ f k v b w next good t. search rules) _
          c.args.pieces.now.entries c.retain.new.self.entries [] tt (λ _. c.clear.ensures) c.retain.ensures.filtered)).none kept.none_past;
    }
