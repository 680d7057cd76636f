-- What a locked proxy returns, with the records and the verdict cells that it speaks of. *Profile*:
-- all of it.
use Rattle.std.specs.Prelude.{◌≡◌, ℕ, ◌+◌, ◌*◌, ◌<◌, ◌≤◌, List, length, take, slice_get, Some}
use Rattle.model.specs.Numbers.{ResolverNumber}
use Rattle.model.specs.Configs.{Config}
use Rattle.model.specs.Records.{Record, IsHistory}
use Rattle.model.specs.declared.outcome.Finished.{Finished}
use Rattle.model.specs.declared.routing.Routing.{Routing}
use Rattle.model.specs.Journal.{history_verdicts, journal, list_at}
use Rattle.model.specs.Metadata.{metadata, routing}
use Rattle.model.specs.World.{finished_batch, up_to_version}
use Rattle.model.specs.Agreed.{Columns, IsAgreed, KnowsRows, AreVerdicts}

-- a finished batch, the records up to its row, and the verdict cells of each resolver
pub record NotedFinishedView : Type 0 where
  pub finished : Finished
  pub records : List Record
  pub columns : Columns

-- The records are a history, and the last of them is the record of the batch's row. Each resolver's
-- column has a cell for each of them, with the definition's verdicts. The outcomes and the tags are
-- the definition's: those of the metadata after the whole batch.
pub record IsNotedFinished (config : Config) (v : NotedFinishedView) : Type 0 where
  pub rec : Record
  pub history : IsHistory config v.records
  pub last : length v.records ≡ v.finished.row + 1
  pub there : slice_get v.records v.finished.row ≡ Some rec
  pub cells :
      (r : ResolverNumber) → r < config.resolvers
      → KnowsRows (list_at v.columns r) (length v.records)
  pub verdicts : AreVerdicts config v.records v.columns
  pub finished_is :
      let verdict_by = history_verdicts config v.records in
      v.finished ≡ finished_batch config verdict_by (take v.finished.row v.records) rec

-- a routing, some records, and the verdict cells of each resolver
pub record NotedRoutingView : Type 0 where
  pub routing : Routing
  pub records : List Record
  pub columns : Columns

-- The view is agreed up to some row, whose version is not below that of the routing, and the cells
-- of the rows before it hold the definition's verdicts. The routing is read off the metadata of these
-- rows, up to the version of the routing.
pub record IsNotedRouting (config : Config) (v : NotedRoutingView) : Type 0 where
  pub rows : ℕ
  pub agreed : IsAgreed config v.records v.columns rows
  pub verdicts : AreVerdicts config (take rows v.records) v.columns
  pub reached : v.routing.version ≤ rows * config.step
  pub routing_is :
      let known = take rows v.records in
      let rows_then =
      journal config (history_verdicts config known) (up_to_version v.routing.version known) in
      v.routing ≡ routing v.routing.version (metadata rows_then)
