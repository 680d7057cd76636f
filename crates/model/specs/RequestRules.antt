-- What every request keeps, whichever record it is for. Release 7.1: the request,
-- `CommitProxyServer.actor.cpp`, ResolutionRequestBuilder.
use Rattle.std.specs.Prelude.{◌≡◌, suc, ◌≤◌, List, [], ◌∷◌, map, nat_eq, is_some, All, Contains}
use Rattle.model.specs.Numbers.{TransactionNumber}
use Rattle.model.specs.declared.part.Part.{Part}
use Rattle.model.specs.declared.unseen.StateMark.{StateMark}
use Rattle.model.specs.Requests.{Request}

-- the numbers of the parts rise, and the first is at least `least`
abbrev pub NumbersRise : (least : TransactionNumber) → List Part → Type 0
NumbersRise least [] = Unit {0}
NumbersRise least (part ∷ parts) = (least ≤ part.number) × NumbersRise (suc part.number) parts

-- the numbers of some parts
abbrev pub part_numbers : List Part → List TransactionNumber
part_numbers parts = map (λ (part : Part). part.number) parts

-- The numbers of its parts rise, each of its marks names a part, and its marks have the content of
-- their transactions exactly if it is to resolver 0.
pub record KeepsRequestRule (q : Request) : Type 0 where
  pub rising : NumbersRise 0 q.share
  pub named : All (λ (mark : StateMark). Contains (part_numbers q.share) mark.number) q.states
  pub carried : All (λ (mark : StateMark). is_some mark.carried ≡ nat_eq q.resolver 0) q.states
