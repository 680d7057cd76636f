-- A clone of the pieces has the same starts.
use Rattle.std.proofs.Common.{◌∙◌, sym, subst}
use Rattle.dated_owners.specs.Starts.{AreKept, moves_of}
use Rattle.dated_owners.proofs.KeyStarts.{cloned}
use Rattle.dated_owners.proofs.owner_map.OwnerMapClone.clone.Goals as goal

pub invariant_of-result : goal.invariant_of-result
invariant_of-result c = (c.self.invariant.0, subst AreKept (sym (cloned c.self.inside.pieces.entries c.in_ok-clone.field-0.entries c.in_ok-clone.ensures.cases)) c.self.invariant.1)

pub returns : goal.returns
returns c =
    record {
      cases = (λ i. record {
        resolvers = c.self.inside.resolvers;
        last_date = c.self.inside.last_date;
        oldest = c.self.inside.oldest;
        moves = moves_of (cloned c.self.inside.pieces.entries c.in_ok-clone.field-0.entries c.in_ok-clone.ensures.cases i);
      })
          ∙ c.self.view_is;
    }
