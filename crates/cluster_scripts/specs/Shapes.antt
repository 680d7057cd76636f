-- The form of what scripts of clusters share: the numbers of a cluster, within their limits, and
-- moves. An object has all its fields and no other, in any order (this project's profile).
use Rattle.std.specs.Prelude.{codes, if◌then◌else◌, Option, Some, None}
use Rattle.serde_json.specs.Data.{Data}
use Rattle.model.specs.Configs.{Config, is_config}
use Rattle.scripts.specs.BatchShapes.{range_shape}
use Rattle.scripts.specs.Shapes.{◌>>=◌, number_shape, has_fields, field_shape}
use Rattle.cluster_scripts.specs.declared.given_move.GivenMove.{GivenMove}

-- ---- the numbers of a cluster

abbrev pub config_within : Config → Option Config
config_within config = if is_config config then Some config else None

-- the numbers of the cluster, within their limits
abbrev pub config_shape : Data → Option Config
config_shape d = do
  proxies ← field_shape number_shape (codes "proxies") d
  resolvers ← field_shape number_shape (codes "resolvers") d
  window ← field_shape number_shape (codes "window") d
  step ← field_shape number_shape (codes "step") d
  config_within (record {
    proxies = proxies;
    resolvers = resolvers;
    window = window;
    step = step;
  })

-- ---- moves

-- `{"range":[begin,end],"resolver":N}`
abbrev pub move_fields : Data → Option GivenMove
move_fields d = do
  range ← field_shape range_shape (codes "range") d
  resolver ← field_shape number_shape (codes "resolver") d
  Some (record { range = range; dest = resolver })

abbrev pub move_shape : Data → Option GivenMove
move_shape d = if has_fields 2 d then move_fields d else None
