-- A request that crosses threads, with the records up to its row. *Profile*: all of it.
use Rattle.std.specs.Prelude.{◌≡◌, ◌+◌, ◌*◌, ◌<◌, ◌≤◌, List, length, slice_get, Some}
use Rattle.model.specs.Configs.{Config}
use Rattle.model.specs.Records.{Record, IsHistory}
use Rattle.model.specs.Requests.{Request, request}

-- a request, and the records up to the row of its record
pub record RequestView : Type 0 where
  pub plain : Request
  pub records : List Record

-- The records are a history, and the last of them is the record of the request's row. The request is
-- the one for this record to a resolver of the cluster, by some version last received that is not
-- above the previous version.
pub record IsRequestFor (config : Config) (v : RequestView) : Type 0 where
  pub rec : Record
  pub history : IsHistory config v.records
  pub last : length v.records ≡ v.plain.row + 1
  pub there : slice_get v.records v.plain.row ≡ Some rec
  pub is : v.plain ≡ request config rec v.plain.last_received v.plain.resolver
  pub received : v.plain.last_received ≤ rec.previous
  pub resolver : v.plain.resolver < config.resolvers

-- the previous version of the request is its row times the step, and its version is one step more
pub record HasRowVersions (config : Config) (q : Request) : Type 0 where
  pub previous : q.previous ≡ q.row * config.step
  pub version : q.version ≡ q.previous + config.step
