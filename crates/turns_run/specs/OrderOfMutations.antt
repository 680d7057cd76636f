-- Mutations in the order of their transactions, as finished records have them.
use Rattle.std.specs.Prelude.{◌≡◌, ◌<◌, suc, List, [], ◌∷◌, Bool, true, ◌&&◌, nat_le}
use Rattle.std.specs.Prelude.{Option, IsSome}
use Rattle.model.specs.Numbers.{ProxyNumber, TransactionNumber}
use Rattle.model.specs.declared.outcome.Tagged.{Tagged}
use Rattle.model.specs.World.{Answer, Sequenced, Moved, Judged, Again, FinishedBatch, Refused}
use Rattle.turns_run.specs.Lines.{mutations_of}

-- the numbers of the transactions never decrease, from this one on
abbrev pub are_in_order : TransactionNumber → List Tagged → Bool
are_in_order least [] = true
are_in_order least (first ∷ later) = nat_le least first.number && are_in_order first.number later

-- `later` is what follows the mutations of transaction n, which come first: mutations of the
-- transactions after it, all of them, and in order
pub record IsAfter (n : TransactionNumber) (tagged later : List Tagged) : Type 0 where
  pub in_order : are_in_order (suc n) later ≡ true
  pub all : (k : TransactionNumber) → n < k → mutations_of k later ≡ mutations_of k tagged

-- A record is finished by a finish alone, whose proxy is given, and its mutations are in order. No
-- other answer has to meet anything.
abbrev pub FitsFinish : (finishing : Option ProxyNumber) → Answer → Type 0
FitsFinish finishing (Sequenced row version) = Unit {0}
FitsFinish finishing (Moved date) = Unit {0}
FitsFinish finishing (Judged reply) = Unit {0}
FitsFinish finishing (Again reply) = Unit {0}
FitsFinish finishing (FinishedBatch finished) =
    IsSome finishing × (are_in_order 0 finished.tagged ≡ true)
FitsFinish finishing (Refused refusal) = Unit {0}
