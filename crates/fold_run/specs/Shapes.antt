-- The form of a fold script: an object has all its fields and no other, in any order (this
-- project's profile).
use Rattle.std.specs.Prelude.{codes, if◌then◌else◌, Option, Some, None}
use Rattle.serde_json.specs.Data.{Data}
use Rattle.serde_json.specs.Find.{as_bool}
use Rattle.fold_run.specs.declared.script.RawFold.{RawFold}
use Rattle.fold_run.specs.declared.script.RawRow.{RawRow}
use Rattle.fold_run.specs.declared.script.RawState.{RawState}
use Rattle.scripts.specs.ChangeShapes.{change_shape}
use Rattle.scripts.specs.Shapes.{◌>>=◌, number_shape, bytes_shape, verdict_shape, list_shape}
use Rattle.scripts.specs.Shapes.{has_fields, field_shape}

-- `{"mutations":[..],"lock_aware":..,"verdicts":[..]}`
abbrev pub state_fields : Data → Option RawState
state_fields d = do
  mutations ← field_shape (list_shape change_shape) (codes "mutations") d
  lock_aware ← field_shape as_bool (codes "lock_aware") d
  verdicts ← field_shape (list_shape verdict_shape) (codes "verdicts") d
  Some (record { mutations = mutations; lock_aware = lock_aware; verdicts = verdicts })

abbrev pub state_shape : Data → Option RawState
state_shape d = if has_fields 3 d then state_fields d else None

-- `{"version":..,"states":[..]}`
abbrev pub row_fields : Data → Option RawRow
row_fields d = do
  version ← field_shape number_shape (codes "version") d
  states ← field_shape (list_shape state_shape) (codes "states") d
  Some (record { version = version; states = states })

abbrev pub row_shape : Data → Option RawRow
row_shape d = if has_fields 2 d then row_fields d else None

-- `{"resolvers":..,"rows":[..],"ask":[..]}`
abbrev pub script_fields : Data → Option RawFold
script_fields d = do
  resolvers ← field_shape number_shape (codes "resolvers") d
  rows ← field_shape (list_shape row_shape) (codes "rows") d
  ask ← field_shape (list_shape bytes_shape) (codes "ask") d
  Some (record { resolvers = resolvers; rows = rows; ask = ask })

abbrev pub fields_shape : Data → Option RawFold
fields_shape d = if has_fields 3 d then script_fields d else None
