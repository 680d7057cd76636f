-- How a view grows: by a record, and by a cell of each resolver. *Profile*: all of it.
use Rattle.std.specs.Prelude.{◌≡◌, ℕ, suc, ◌<◌, List, [], ◌∷◌, ◌++◌, length, map, take, slice_get}
use Rattle.std.specs.Prelude.{Some}
use Rattle.model.specs.Numbers.{ResolverNumber}
use Rattle.model.specs.Configs.{Config}
use Rattle.model.specs.Records.{Record, IsHistory, Follows}
use Rattle.model.specs.Shares.{each_below}
use Rattle.model.specs.Verdicts.{share_verdicts}
use Rattle.model.specs.Journal.{list_at}
use Rattle.model.specs.Agreed.{Column, Columns, KnowsRows, IsAgreed, AreVerdicts}

-- the column of each resolver has n cells
abbrev pub HaveCells : Config → Columns → (n : ℕ) → Type 0
HaveCells config columns n =
    (r : ResolverNumber) → r < config.resolvers → length (list_at columns r) ≡ n

-- each resolver's column in `more` is that in `columns` and one more cell, with the resolver's
-- verdicts on its share of `rec`
abbrev pub GainVerdicts :
    Config → (before : List Record) (rec : Record) (columns more : Columns) → Type 0
GainVerdicts config before rec columns more =
    (r : ResolverNumber) → r < config.resolvers
    → list_at more r ≡ list_at columns r ++ share_verdicts config r before rec ∷ []

-- the cells of resolver r for some records, after those before them
abbrev pub column_from : Config → ResolverNumber → (before records : List Record) → Column
column_from config r before [] = []
column_from config r before (rec ∷ rest) =
    share_verdicts config r before rec ∷ column_from config r (before ++ rec ∷ []) rest

-- the columns of all resolvers, with a cell for each of these records
abbrev pub all_columns : Config → List Record → Columns
all_columns config h =
    map (λ (r : ResolverNumber). column_from config r [] h) (each_below config.resolvers)

-- ---- the statements of the law

-- a view that gains the next record, and no cell, is agreed up to the same row
abbrev pub AgreedWithARecord : Type 0
AgreedWithARecord =
    (config : Config) (records : List Record) (columns : Columns) (n : ℕ) (rec : Record)
    → IsAgreed config records columns n → Follows config records rec
    → IsAgreed config (records ++ rec ∷ []) columns n

-- a view that has a record of the next row, and whose columns have a cell of that row, is agreed up
-- to one more row, whatever the cells hold
abbrev pub AgreedWithAnyCells : Type 0
AgreedWithAnyCells =
    (config : Config) (records : List Record) (columns more : Columns) (n : ℕ) (rec : Record)
    → IsAgreed config records columns n → slice_get records n ≡ Some rec
    → ((r : ResolverNumber) → r < config.resolvers → KnowsRows (list_at more r) (suc n))
    → IsAgreed config records more (suc n)

-- so a view that has a record of the next row, and whose columns gain the verdicts on it, is agreed
-- up to one more row
abbrev pub AgreedWithCells : Type 0
AgreedWithCells =
    (config : Config) (records : List Record) (columns more : Columns) (n : ℕ) (rec : Record)
    → IsAgreed config records columns n → slice_get records n ≡ Some rec
    → GainVerdicts config (take n records) rec columns more
    → IsAgreed config records more (suc n)

-- columns with the verdicts on some records, and one cell for each, that gain the verdicts on the
-- next record have the verdicts on all of them
abbrev pub VerdictsWithCells : Type 0
VerdictsWithCells =
    (config : Config) (h : List Record) (columns more : Columns) (rec : Record)
    → AreVerdicts config h columns → HaveCells config columns (length h)
    → GainVerdicts config h rec columns more → AreVerdicts config (h ++ rec ∷ []) more

-- a view with a history and all its cells is agreed up to the end of the history
abbrev pub HistoriesAreAgreed : Type 0
HistoriesAreAgreed =
    (config : Config) (h : List Record)
    → IsHistory config h → IsAgreed config h (all_columns config h) (length h)

-- these columns have a cell for each record
abbrev pub AllColumnsHaveCells : Type 0
AllColumnsHaveCells =
    (config : Config) (h : List Record) → HaveCells config (all_columns config h) (length h)

-- with one record more, they gain the verdicts on it
abbrev pub AllColumnsGainVerdicts : Type 0
AllColumnsGainVerdicts =
    (config : Config) (h : List Record) (rec : Record)
    → GainVerdicts config h rec (all_columns config h) (all_columns config (h ++ rec ∷ []))

-- all these cells hold the verdicts of their resolvers
abbrev pub AllColumnsAreVerdicts : Type 0
AllColumnsAreVerdicts =
    (config : Config) (h : List Record) → AreVerdicts config h (all_columns config h)
