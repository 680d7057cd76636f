-- The refusals of locked resolvers and proxies, in the model's words; and the numbers and names of
-- refusals (this project's profile).
use Rattle.std.specs.Prelude.{ℕ, List, codes, Option, Some, None}
use Rattle.facts.specs.declared.setting.NotSet.{NotSet}
use Rattle.facts.specs.declared.setting.NotSet.TheVariants as unset
use Rattle.locked_resolvers.specs.declared.refusal.Refusal.{Refusal}
use Rattle.locked_resolvers.specs.declared.refusal.Refusal.TheVariants as refusals
use Rattle.state_memory.specs.declared.refusal.Refusal.{Refusal as OfferRefusal}
use Rattle.state_memory.specs.declared.refusal.Refusal.TheVariants as offered

-- the number that is printed; `OutOfMemory` has none, and is never printed
abbrev pub refusal_number : Refusal → Option ℕ
refusal_number (refusals.Early version) = Some 30
refusal_number (refusals.GivenUp acknowledged) = Some 31
refusal_number refusals.NoSuchProxy = Some 32
refusal_number refusals.WrongResolver = Some 33
refusal_number (refusals.OutsideChain version) = Some 34
refusal_number refusals.NotMine = Some 40
refusal_number (refusals.OutOfOrder expected) = Some 41
refusal_number (refusals.OutOfTurn expected) = Some 42
refusal_number (refusals.NotReached version) = Some 45
refusal_number refusals.CellTaken = Some 52
refusal_number refusals.Closed = Some 60
refusal_number refusals.OutOfMemory = None

abbrev pub refusal_name : Refusal → List ℕ
refusal_name (refusals.Early version) = codes "Early"
refusal_name (refusals.GivenUp acknowledged) = codes "GivenUp"
refusal_name refusals.NoSuchProxy = codes "NoSuchProxy"
refusal_name refusals.WrongResolver = codes "WrongResolver"
refusal_name (refusals.OutsideChain version) = codes "OutsideChain"
refusal_name refusals.NotMine = codes "NotMine"
refusal_name (refusals.OutOfOrder expected) = codes "OutOfOrder"
refusal_name (refusals.OutOfTurn expected) = codes "OutOfTurn"
refusal_name (refusals.NotReached version) = codes "NotReached"
refusal_name refusals.CellTaken = codes "CellTaken"
refusal_name refusals.Closed = codes "Closed"
refusal_name refusals.OutOfMemory = codes "OutOfMemory"

-- the refusal that a refusal of the resolver under the lock becomes
abbrev pub of_offer : OfferRefusal → Refusal
of_offer offered.WrongResolver = refusals.WrongResolver
of_offer offered.NoSuchProxy = refusals.NoSuchProxy
of_offer (offered.OutsideChain version) = refusals.OutsideChain version
of_offer (offered.GivenUp acknowledged) = refusals.GivenUp acknowledged
of_offer (offered.Early version) = refusals.Early version
of_offer offered.OutOfMemory = refusals.OutOfMemory

-- Why a request that comes next was not judged: `OutOfMemory` if an allocation failed, and
-- `CellTaken` if the verdict cell of its row held verdicts before.
abbrev pub of_unset : {K : Type 0} → NotSet K → Refusal
of_unset unset.OutOfMemory = refusals.OutOfMemory
of_unset (unset.Taken note) = refusals.CellTaken

-- what is known of the cell, if it is taken
abbrev pub taken_note : {K : Type 0} → NotSet K → Option K
taken_note unset.OutOfMemory = None
taken_note (unset.Taken note) = Some note
