-- The numbers and names of refusals, and which replies are refused (this project's profile).
use Rattle.std.specs.Prelude.{ℕ, List, codes, Option, Some, None, slice_get}
use Rattle.model.specs.declared.reply.Reply.{Reply}
use Rattle.proxy_state.specs.declared.refusal.Refusal.{Refusal}
use Rattle.proxy_state.specs.declared.refusal.Refusal.TheVariants.{WrongResolver, NotMine, OutOfOrder}
use Rattle.proxy_state.specs.declared.refusal.Refusal.TheVariants.{OutOfTurn, MissingReply}
use Rattle.proxy_state.specs.declared.refusal.Refusal.TheVariants.{RepliesDisagree, NotReached}
use Rattle.proxy_state.specs.declared.refusal.Refusal.TheVariants.{DoubleReply, OutOfMemory}

-- the number that is printed; `OutOfMemory` has none, and is never printed
abbrev pub refusal_number : Refusal → Option ℕ
refusal_number WrongResolver = Some 33
refusal_number NotMine = Some 40
refusal_number (OutOfOrder expected) = Some 41
refusal_number (OutOfTurn expected) = Some 42
refusal_number (MissingReply resolver) = Some 43
refusal_number (RepliesDisagree version) = Some 44
refusal_number (NotReached version) = Some 45
refusal_number (DoubleReply resolver) = Some 46
refusal_number OutOfMemory = None

abbrev pub refusal_name : Refusal → List ℕ
refusal_name WrongResolver = codes "WrongResolver"
refusal_name NotMine = codes "NotMine"
refusal_name (OutOfOrder expected) = codes "OutOfOrder"
refusal_name (OutOfTurn expected) = codes "OutOfTurn"
refusal_name (MissingReply resolver) = codes "MissingReply"
refusal_name (RepliesDisagree version) = codes "RepliesDisagree"
refusal_name (NotReached version) = codes "NotReached"
refusal_name (DoubleReply resolver) = codes "DoubleReply"
refusal_name OutOfMemory = codes "OutOfMemory"

-- the fault of a reply for a place: there is no such place, or another reply is there
abbrev pub place_fault : (resolver : ℕ) → Option (Option Reply) → Option Refusal
place_fault resolver None = Some WrongResolver
place_fault resolver (Some None) = None
place_fault resolver (Some (Some other)) = Some (DoubleReply resolver)

-- the fault of a reply that is put among others, which have one place for each resolver
abbrev pub put_fault : (replies : List (Option Reply)) → Reply → Option Refusal
put_fault replies reply = place_fault reply.resolver (slice_get replies reply.resolver)
