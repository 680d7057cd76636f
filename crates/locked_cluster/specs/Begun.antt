-- The requests for a record that a proxy began, with the records up to it. *Profile*: all of it.
use Rattle.std.specs.Prelude.{◌≡◌, ◌+◌, ◌≤◌, List, length, map, slice_get, Some}
use Rattle.model.specs.Numbers.{Version, ResolverNumber, RowNumber}
use Rattle.model.specs.Configs.{Config}
use Rattle.model.specs.Records.{Record, IsHistory}
use Rattle.model.specs.Shares.{each_below}
use Rattle.model.specs.Requests.{Request, request}
use Rattle.locked_resolvers.specs.Requests.{RequestView, IsRequestFor}

-- the row of a record, the records up to it, and the requests for it
pub record BegunView : Type 0 where
  pub row : RowNumber
  pub records : List Record
  pub requests : List RequestView

-- these requests, each with these records
abbrev pub with_records : List Record → List Request → List RequestView
with_records records requests =
    map (λ (q : Request). record { plain = q; records = records }) requests

-- the requests for a record, one to each resolver
abbrev pub requests_to_all : Config → Record → (last_received : Version) → List Request
requests_to_all config rec last_received =
    map (request config rec last_received) (each_below config.resolvers)

-- The records are a history, and the last of them is the record of the row. The requests are the
-- definition's for this record, one to each resolver, by one version last received that is not above
-- the record's previous version.
pub record IsBegun (config : Config) (v : BegunView) : Type 0 where
  pub rec : Record
  pub last_received : Version
  pub history : IsHistory config v.records
  pub last : length v.records ≡ v.row + 1
  pub there : slice_get v.records v.row ≡ Some rec
  pub received : last_received ≤ rec.previous
  pub requests : v.requests ≡ with_records v.records (requests_to_all config rec last_received)

-- each of these requests is for the last of these records
abbrev pub AreRequestsFor : Config → List Record → List Request → Type 0
AreRequestsFor config records requests =
    (r : ResolverNumber) (q : Request) → slice_get requests r ≡ Some q
    → IsRequestFor config (record { plain = q; records = records })
