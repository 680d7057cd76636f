-- What one resolver says by its own column of verdict cells, and how it replies by it. *Profile*:
-- all of it.
use Rattle.std.specs.Prelude.{◌≡◌, ◌<◌, List, map, take, slice_get, Some}
use Rattle.model.specs.Numbers.{ResolverNumber}
use Rattle.model.specs.Configs.{Config}
use Rattle.model.specs.declared.reply.Reply.{Reply}
use Rattle.model.specs.Records.{Record}
use Rattle.model.specs.Shares.{each_below}
use Rattle.model.specs.Journal.{VerdictSource, list_at, cell_verdict_in_row}
use Rattle.model.specs.World.{reply_with}
use Rattle.model.specs.Agreed.{Column, Columns}
use Rattle.model.specs.Finishing.{Replies, reply_from}

-- The verdicts by one column of cells: that on transaction n of row i, if the column is that of
-- resolver r. A verdict counts as Conflict if its cell is missing or too short.
unfoldable pub column_verdicts : Config → (h : List Record) → Column → VerdictSource
column_verdicts config h column r i n =
    cell_verdict_in_row config (list_at column i) r n (slice_get h i)

-- the reply of resolver r to a record, by its column and the records that it knows
abbrev pub reply_by_column :
    Config → (h : List Record) → Column → ResolverNumber → Record → Reply
reply_by_column config h column r rec =
    reply_with (list_at column rec.row) (column_verdicts config h column) r (take rec.row h) rec

-- the replies of all resolvers to a record, each by its own column
abbrev pub replies_by_columns :
    Config → (h : List Record) → Columns → (rec : Record) → Replies
replies_by_columns config h columns rec =
    map
    (λ (r : ResolverNumber). Some (reply_by_column config h (list_at columns r) r rec))
    (each_below config.resolvers)

-- each resolver has replied to the record, by its own column
abbrev pub AreRepliesByColumns :
    Config → (h : List Record) → Columns → (rec : Record) → Replies → Type 0
AreRepliesByColumns config h columns rec replies =
    (r : ResolverNumber) → r < config.resolvers
    → reply_from replies r ≡ Some (reply_by_column config h (list_at columns r) r rec)
