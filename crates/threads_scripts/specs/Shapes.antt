-- The form of a threads script: an object has all its fields and no other, in any order (this
-- project's profile).
use Rattle.std.specs.Prelude.{ℕ, List, codes, if◌then◌else◌, Option, Some, None}
use Rattle.serde_json.specs.Data.{Data}
use Rattle.model.specs.Configs.{Config}
use Rattle.mutation.specs.declared.transaction.Transaction.{Transaction}
use Rattle.scripts.specs.BatchShapes.{batch_shape}
use Rattle.scripts.specs.Shapes.{◌>>=◌, number_shape, bytes_shape, list_shape}
use Rattle.scripts.specs.Shapes.{has_fields, field_shape}
use Rattle.cluster_scripts.specs.Shapes.{config_shape, move_shape}
use Rattle.threads_scripts.specs.declared.script.RawThreads.{RawThreads}

-- for each proxy a list of batches, each of any length
abbrev pub work_shape : Data → Option (List (List (List Transaction)))
work_shape = list_shape (list_shape batch_shape)

-- the script with these numbers, and with the lists of the object
abbrev pub threads_with_lists : Config → ℕ → Data → Option RawThreads
threads_with_lists config rows d = do
  moves ← field_shape (list_shape move_shape) (codes "moves") d
  work ← field_shape work_shape (codes "work") d
  ask ← field_shape (list_shape bytes_shape) (codes "ask") d
  Some (record { config = config; rows = rows; moves = moves; work = work; ask = ask })

-- `{"proxies":N,"resolvers":N,"window":N,"step":N,"rows":N,"moves":[..],"work":[[..]..],"ask":[..]}`
abbrev pub threads_fields : Data → Option RawThreads
threads_fields d = do
  config ← config_shape d
  rows ← field_shape number_shape (codes "rows") d
  threads_with_lists config rows d

abbrev pub threads_fields_shape : Data → Option RawThreads
threads_fields_shape d = if has_fields 8 d then threads_fields d else None
