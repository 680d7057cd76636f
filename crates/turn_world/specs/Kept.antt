-- What a cluster keeps, in the model's words.
use Rattle.std.specs.Prelude.{◌≡◌, ◌<◌, ◌⊎◌, ℕ, List, [], map, length, slice_get, slice_index, Some}
use Rattle.model.specs.Numbers.{Version}
use Rattle.model.specs.Configs.{Config, version_limit}
use Rattle.model.specs.declared.moves.Move.{Move}
use Rattle.model.specs.Records.{Record, last_version}
use Rattle.model.specs.Requests.{Request}
use Rattle.model.specs.ResolverMemory.{ResolverView}
use Rattle.model.specs.Finishing.{ProxyView}
use Rattle.model.specs.World.{World}
use Rattle.model.specs.Turns.{AreInStep}
use Rattle.turn_world.specs.declared.kept_record.KeptRecord.{KeptRecord}

-- the records of some rows
abbrev pub records_of : List KeptRecord → List Record
records_of rows = map (λ (row : KeptRecord). row.rec.known) rows

-- the requests for each record, as they were sent
abbrev pub requests_of : List KeptRecord → List (List Request)
requests_of rows = map (λ (row : KeptRecord). row.sent.known) rows

-- the world of what is kept: the rows, all moves so far, how many rows each resolver has judged, and
-- how many records each proxy has finished
abbrev pub world_of :
    (rows : List KeptRecord) (moves : List Move) (judged_counts finished : List ℕ) → World
world_of rows moves judged_counts finished =
    record {
      history = records_of rows;
      moves = moves;
      received = map (λ (row : KeptRecord). row.received) rows;
      judged_counts = judged_counts;
      finished = finished;
    }

-- each resolver has judged the row, by how many rows each has judged
abbrev pub IsJudgedByAll : (judged_counts : List ℕ) (row : ℕ) → Type 0
IsJudgedByAll judged_counts row = (r : ℕ) → r < length judged_counts → row < slice_index judged_counts r

-- What is kept of the record in this row: its proxy, and the requests that were sent for it, or none
-- of them once each resolver has judged the row.
pub record IsRowKept (judged_counts : List ℕ) (row : ℕ) (one : KeptRecord) : Type 0 where
  pub proxy : one.proxy ≡ one.rec.known.proxy
  pub requests :
      (one.kept.requests.items ≡ one.sent.known)
      ⊎ ((one.kept.requests.items ≡ []) × IsJudgedByAll judged_counts row)

-- this is kept of the record in each row
abbrev pub AreRowsKept : (judged_counts : List ℕ) (rows : List KeptRecord) → Type 0
AreRowsKept judged_counts rows =
    (row : ℕ) (one : KeptRecord) → slice_get rows row ≡ Some one → IsRowKept judged_counts row one

-- The requests for this row are dropped. The world does not see it, and what is kept is right if
-- each resolver has judged the row.
pub record HasDroppedRequests (row : ℕ) (before after : List KeptRecord) : Type 0 where
  pub records : records_of after ≡ records_of before
  pub received : map (λ (x : KeptRecord). x.received) after ≡ map (λ (x : KeptRecord). x.received) before
  pub sent : requests_of after ≡ requests_of before
  pub none : (one : KeptRecord) → slice_get after row ≡ Some one → one.kept.requests.items ≡ []
  pub kept :
      (judged_counts : List ℕ) → IsJudgedByAll judged_counts row
      → AreRowsKept judged_counts before → AreRowsKept judged_counts after

-- What the type of a cluster keeps: its resolvers, its proxies and the requests that these sent are
-- in step with its world. `last` is the last version given out.
pub record IsKept
    (config : Config) (world : World) (resolvers : List ResolverView) (proxies : List ProxyView)
    (requests : List (List Request)) (last : Version) : Type 0 where
  pub parts : AreInStep config world resolvers proxies requests
  pub last_is : last ≡ last_version world.history
  pub below : last < version_limit
