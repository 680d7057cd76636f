-- Verdict cells that are there and hold the verdicts of the definition.
use Rattle.std.specs.Prelude.{◌≡◌, ℕ, ◌<◌, List, take, slice_get, Some}
use Rattle.model.specs.Numbers.{ResolverNumber, RowNumber}
use Rattle.model.specs.Configs.{Config}
use Rattle.model.specs.Records.{Record}
use Rattle.model.specs.Verdicts.{share_verdicts}
use Rattle.model.specs.Journal.{list_at}
use Rattle.model.specs.Agreed.{Column, Columns}
use Rattle.locked_resolvers.specs.Resolvers.{LockedResolverView}

-- the column has a cell for each of these records, with the verdicts of resolver r on its share
abbrev pub HasVerdicts : Config → List Record → ResolverNumber → Column → Type 0
HasVerdicts config records r column =
    (row : RowNumber) (rec : Record) → slice_get records row ≡ Some rec
    → slice_get column row ≡ Some (share_verdicts config r (take row records) rec)

-- the column of each resolver of the cluster has its verdicts on these records
abbrev pub HaveVerdicts : Config → List Record → Columns → Type 0
HaveVerdicts config records columns =
    (r : ResolverNumber) → r < config.resolvers
    → HasVerdicts config records r (list_at columns r)

-- each of these locked resolvers has its verdicts on these records
abbrev pub HaveJudged : Config → List Record → List LockedResolverView → Type 0
HaveJudged config records resolvers =
    (place : ℕ) (resolver : LockedResolverView) → slice_get resolvers place ≡ Some resolver
    → HasVerdicts config records resolver.memory.number resolver.column
