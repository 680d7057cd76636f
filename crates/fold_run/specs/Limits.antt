-- The limits of a fold script (this project's profile).
use Rattle.std.specs.Prelude.{ℕ, List, [], ◌∷◌, length, Bool, true, ◌&&◌, nat_eq, nat_lt}
use Rattle.std.specs.Prelude.{if◌then◌else◌, Option, Some, None}
use Rattle.std.specs.List.{list_all}
use Rattle.serde_json.specs.Data.{Data}
use Rattle.model.specs.Configs.{is_from_one_to, resolvers_limit}
use Rattle.fold_run.specs.declared.script.RawFold.{RawFold}
use Rattle.fold_run.specs.declared.script.RawRow.{RawRow}
use Rattle.fold_run.specs.declared.script.RawState.{RawState}
use Rattle.scripts.specs.Shapes.{◌>>=◌}
use Rattle.fold_run.specs.Shapes.{fields_shape}

-- the versions are strictly increasing, from above this one
abbrev pub versions_increase : ℕ → List RawRow → Bool
versions_increase before [] = true
versions_increase before (row ∷ rows) =
    nat_lt before row.version && versions_increase row.version rows

-- the transaction has one verdict for each resolver
abbrev pub state_has_verdicts : ℕ → RawState → Bool
state_has_verdicts resolvers state = nat_eq (length state.verdicts) resolvers

-- each transaction of the row has
abbrev pub row_has_verdicts : ℕ → RawRow → Bool
row_has_verdicts resolvers row = list_all (state_has_verdicts resolvers) row.states

-- from 1 to 64 resolvers, strictly increasing versions from 1 on, and one verdict of each resolver
abbrev pub is_within_limits : RawFold → Bool
is_within_limits script = is_from_one_to resolvers_limit script.resolvers
    && versions_increase 0 script.rows && list_all (row_has_verdicts script.resolvers) script.rows

abbrev pub limited : RawFold → Option RawFold
limited script = if is_within_limits script then Some script else None

-- the script that a value is, if it has the form and is within the limits
abbrev pub script_shape : Data → Option RawFold
script_shape d = do
  script ← fields_shape d
  limited script
