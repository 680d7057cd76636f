-- The faults of a transaction as a client gives it, and of one with its stamps in, and the first of
-- them (this project's profile).
use Rattle.std.specs.Prelude.{ℕ, ◌+◌, List, [], ◌∷◌, ◌++◌, length, filter_map, Bool, true, false}
use Rattle.std.specs.Prelude.{◌&&◌, nat_le, if◌then◌else◌, Option, Some, None, option_map}
use Rattle.std.specs.Option.{option_or}
use Rattle.system_keys.specs.declared.change.Change.{Change}
use Rattle.system_keys.specs.declared.change.Change.TheVariants as changes
use Rattle.system_keys.specs.declared.kind.RowKind.{RowKind}
use Rattle.system_keys.specs.declared.kind.RowKind.TheVariants as kinds
use Rattle.system_keys.specs.declared.refusal.Refusal.TheVariants.{BadRow}
use Rattle.system_keys.specs.Keys.{Key, Range}
use Rattle.system_keys.specs.Families.{kind_of}
use Rattle.system_keys.specs.Limits.{range_fault, set_fault}
use Rattle.model.specs.Stamps.{Mutation, Set, Clear, SetStamped, AdmittedTransaction, text_of, offset_of}
use Rattle.model.specs.Transactions.{StampedTransaction}
use Rattle.mutation.specs.declared.refusal.Refusal.{Refusal}
use Rattle.mutation.specs.declared.refusal.Refusal.TheVariants as refusals

-- the first fault among some elements, in their order
abbrev pub first_fault : {X : Type 0} → (X → Option Refusal) → List X → Option Refusal
first_fault fault_of [] = None
first_fault fault_of (x ∷ xs) = option_or (fault_of x) (first_fault fault_of xs)

-- the first fault of a range
abbrev pub fault_of_range : Range → Option Refusal
fault_of_range range = option_map refusals.Key (range_fault range.begin range.end)

-- the first fault of a Set
abbrev pub fault_of_set : Key → List ℕ → Option Refusal
fault_of_set key value = option_map refusals.Key (set_fault key value)

-- rows of this kind have values of a fixed form
abbrev pub has_fixed_form : RowKind → Bool
has_fixed_form kinds.KeyServers = true
has_fixed_form kinds.ServerTag = true
has_fixed_form _ = false

-- the value has an offset of four bytes, and before them room for the ten bytes of a stamp at that
-- offset
abbrev pub has_room_for_stamp : List ℕ → Bool
has_room_for_stamp value = nat_le 4 (length value) && nat_le (offset_of value + 10) (length (text_of value))

-- why no stamp can go into this row: its values have a fixed form, or the value has no place for
-- one
abbrev pub fault_of_stamp : Key → List ℕ → Option Refusal
fault_of_stamp key value =
    if has_fixed_form (kind_of key) then Some (refusals.Key BadRow)
    else if has_room_for_stamp value then None
    else Some refusals.BadStamp

-- the first fault of a mutation: the value of a SetStamped counts as it is given
abbrev pub fault_of_mutation : Mutation → Option Refusal
fault_of_mutation (Set key value) = fault_of_set key value
fault_of_mutation (Clear range) = fault_of_range range
fault_of_mutation (SetStamped key value) =
    option_or (fault_of_set key value) (fault_of_stamp key value)

-- the first fault of a transaction: of its reads, then of its writes, then of its mutations
abbrev pub transaction_fault : AdmittedTransaction → Option Refusal
transaction_fault t =
    option_or (first_fault fault_of_range t.reads)
    (option_or (first_fault fault_of_range t.writes) (first_fault fault_of_mutation t.mutations))

-- all faults of a transaction: those of its reads, then of its writes, then of its mutations, each
-- in order
abbrev pub faults_of : AdmittedTransaction → List Refusal
faults_of t =
    filter_map fault_of_range t.reads
    ++ filter_map fault_of_range t.writes
    ++ filter_map fault_of_mutation t.mutations

-- the first fault of a change
abbrev pub fault_of_change : Change → Option Refusal
fault_of_change (changes.Set key value) = fault_of_set key value
fault_of_change (changes.Clear range) = fault_of_range range

-- the first fault of a transaction with its stamps in: of its reads, then of its writes, then of
-- its changes
abbrev pub stamped_fault : StampedTransaction → Option Refusal
stamped_fault t =
    option_or (first_fault fault_of_range t.reads)
    (option_or (first_fault fault_of_range t.writes) (first_fault fault_of_change t.changes))
