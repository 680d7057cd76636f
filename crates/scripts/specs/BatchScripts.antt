-- The batch that bytes are, or their first fault (this project's profile).
use Rattle.std.specs.Prelude.{ℕ, List, map, Option, Some, None, Result, Err}
use Rattle.serde_json.specs.Data.{Data}
use Rattle.model.specs.Stamps.{AdmittedTransaction}
use Rattle.mutation.specs.declared.transaction.Transaction.{Transaction}
use Rattle.mutation.specs.Transactions.{given_from}
use Rattle.scripts.specs.declared.script_fault.ScriptFault.{ScriptFault}
use Rattle.scripts.specs.declared.script_fault.ScriptFault.TheVariants.{NotJson, BadShape}
use Rattle.scripts.specs.BatchChecks.{checked_batch}
use Rattle.scripts.specs.BatchShapes.{batch_shape}
use Rattle.scripts.specs.Values.{value_of}

-- the whole shape is looked at before any transaction is checked
abbrev pub batch_of_shape : Option (List Transaction)
    → Result (List AdmittedTransaction) ScriptFault
batch_of_shape None = Err BadShape
batch_of_shape (Some transactions) = checked_batch (map given_from transactions)

abbrev pub batch_of_data : Option Data → Result (List AdmittedTransaction) ScriptFault
batch_of_data None = Err NotJson
batch_of_data (Some d) = batch_of_shape (batch_shape d)

-- the transactions of the batch that the bytes are, as they were given
unfoldable pub batch_of : List ℕ → Result (List AdmittedTransaction) ScriptFault
batch_of bytes = batch_of_data (value_of bytes)
