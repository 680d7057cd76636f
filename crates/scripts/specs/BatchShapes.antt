-- The form of a batch: an object has all its fields and no other, in any order (this project's
-- profile).
use Rattle.std.specs.Prelude.{List, codes, if◌then◌else◌, Option, Some, None}
use Rattle.serde_json.specs.Data.{Data}
use Rattle.serde_json.specs.Find.{as_bool}
use Rattle.mutation.specs.declared.transaction.GivenRange.{GivenRange}
use Rattle.mutation.specs.declared.transaction.Transaction.{Transaction}
use Rattle.scripts.specs.ChangeShapes.{mutation_shape}
use Rattle.scripts.specs.Shapes.{◌>>=◌, number_shape, list_shape, pair_shape}
use Rattle.scripts.specs.Shapes.{has_fields, field_shape}

-- `[begin,end]`
abbrev pub range_shape : Data → Option GivenRange
range_shape d = do
  pair ← pair_shape d
  Some (record { begin = pair.0; end = pair.1 })

-- `{"snapshot":..,"reads":[..],"writes":[..],"mutations":[..],"lock_aware":..}`
abbrev pub transaction_fields : Data → Option Transaction
transaction_fields d = do
  snapshot ← field_shape number_shape (codes "snapshot") d
  reads ← field_shape (list_shape range_shape) (codes "reads") d
  writes ← field_shape (list_shape range_shape) (codes "writes") d
  mutations ← field_shape (list_shape mutation_shape) (codes "mutations") d
  lock_aware ← field_shape as_bool (codes "lock_aware") d
  Some (record {
    snapshot = snapshot;
    reads = reads;
    writes = writes;
    mutations = mutations;
    lock_aware = lock_aware;
  })

abbrev pub transaction_shape : Data → Option Transaction
transaction_shape d = if has_fields 5 d then transaction_fields d else None

-- a list of transactions, of any length
abbrev pub batch_shape : Data → Option (List Transaction)
batch_shape = list_shape transaction_shape
