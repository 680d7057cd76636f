-- The refusals of a batch, in their order (this project's profile).
use Rattle.std.specs.Prelude.{List, length, map, nat_le, if◌then◌else◌, Option, Some, None}
use Rattle.std.specs.Prelude.{option_map, Result}
use Rattle.std.specs.Option.{option_or}
use Rattle.system_keys.specs.AsSpecified.{unless_fault}
use Rattle.model.specs.Stamps.{AdmittedTransaction}
use Rattle.mutation.specs.declared.refusal.Refusal.{Refusal}
use Rattle.mutation.specs.declared.refusal.Refusal.TheVariants as refusals
use Rattle.mutation.specs.Faults.{first_fault, transaction_fault}
use Rattle.mutation.specs.Limits.{batch_limit}
use Rattle.mutation.specs.Transactions.{given_from}
use Rattle.mutation.specs.declared.transaction.Transaction.{Transaction}
use Rattle.scripts.specs.declared.script_fault.ScriptFault.{ScriptFault}
use Rattle.scripts.specs.declared.script_fault.ScriptFault.TheVariants as faults

-- more transactions than a batch may have
abbrev pub size_fault : List AdmittedTransaction → Option Refusal
size_fault transactions =
    if nat_le (length transactions) batch_limit then None else Some refusals.BatchTooLarge

-- the first fault of the transactions, in their order, and then that there are too many
abbrev pub batch_fault : List AdmittedTransaction → Option Refusal
batch_fault transactions =
    option_or (first_fault transaction_fault transactions) (size_fault transactions)

-- the batch of these transactions, as they were given, or its first fault
abbrev pub checked_batch : List AdmittedTransaction → Result (List AdmittedTransaction) ScriptFault
checked_batch transactions =
    unless_fault (option_map faults.Refused (batch_fault transactions)) transactions

-- the batch of transactions that are not checked yet, or its first fault
abbrev pub checked_transactions : List Transaction → Result (List AdmittedTransaction) ScriptFault
checked_transactions transactions = checked_batch (map given_from transactions)

-- the transactions, as they were given, or the first fault of one
abbrev pub checked_each : List AdmittedTransaction → Result (List AdmittedTransaction) ScriptFault
checked_each transactions =
    unless_fault (option_map faults.Refused (first_fault transaction_fault transactions))
    transactions

-- a refusal, as a fault of the script
abbrev pub fault_of_refusal : Refusal → ScriptFault
fault_of_refusal refusals.OutOfMemory = faults.OutOfMemory
fault_of_refusal refusal = faults.Refused refusal
