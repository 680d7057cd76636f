-- The share of each resolver in a record: the transactions and ranges that the proxy sends to it.
-- Release 7.1, `CommitProxyServer.actor.cpp`, ResolutionRequestBuilder; what differs is marked
-- *profile*. The first section takes any oldest version back to which owners are remembered, the
-- second the record's own.
use Rattle.std.specs.Prelude.{ℕ, zero, suc, max, List, [], ◌∷◌, ◌++◌, Bool, ◌||◌, if◌then◌else◌}
use Rattle.std.specs.Prelude.{filter}
use Rattle.std.specs.List.{list_any}
use Rattle.model.specs.Numbers.{Version, ResolverNumber, TransactionNumber}
use Rattle.model.specs.Configs.{Config}
use Rattle.model.specs.declared.part.Part.{Part}
use Rattle.model.specs.Transactions.{StampedTransaction, is_state_transaction, all_reads}
use Rattle.model.specs.Owners.{asks_read, asks_write}
use Rattle.model.specs.Records.{Record, oldest}

-- ---- back to an oldest version

-- the walk of a read goes back to the greater of the snapshot and the oldest version (*profile*)
abbrev pub read_bound : (oldest : Version) → StampedTransaction → Version
read_bound oldest t = max t.snapshot oldest

-- the part of transaction t, number n of the record, that resolver r gets: whole ranges, never cut
abbrev pub part_back_to :
    (oldest : Version) → Record → ResolverNumber → TransactionNumber → StampedTransaction → Part
part_back_to oldest rec r n t =
    record {
      number = n;
      snapshot = t.snapshot;
      reads = filter (asks_read rec.moves (read_bound oldest t) r) (all_reads t);
      writes = filter (asks_write rec.moves r) t.writes;
    }

-- Resolver r gets a part of the transaction: r gets one of its ranges, or it is a state
-- transaction, which every resolver gets.
abbrev pub asks_back_to : (oldest : Version) → Record → ResolverNumber → StampedTransaction → Bool
asks_back_to oldest rec r t =
    is_state_transaction t
    || list_any (asks_read rec.moves (read_bound oldest t) r) (all_reads t)
    || list_any (asks_write rec.moves r) t.writes

-- the parts that resolver r gets of these transactions, numbered from n, in batch order
abbrev pub parts_back_to :
    (oldest : Version) → Record → ResolverNumber → TransactionNumber → List StampedTransaction
    → List Part
parts_back_to oldest rec r n [] = []
parts_back_to oldest rec r n (t ∷ ts) =
    if asks_back_to oldest rec r t
    then part_back_to oldest rec r n t ∷ parts_back_to oldest rec r (suc n) ts
    else parts_back_to oldest rec r (suc n) ts

-- the share of resolver r in a record
unfoldable pub share_back_to : (oldest : Version) → Record → ResolverNumber → List Part
share_back_to oldest rec r = parts_back_to oldest rec r 0 rec.batch

-- the numbers below n, in increasing order
abbrev pub each_below : ℕ → List ℕ
each_below zero = []
each_below (suc n) = each_below n ++ n ∷ []

-- the resolvers that get a part of the transaction, in increasing order
abbrev pub asked_back_to :
    (oldest : Version) (resolvers : ℕ) → Record → StampedTransaction → List ResolverNumber
asked_back_to oldest resolvers rec t =
    filter (λ r. asks_back_to oldest rec r t) (each_below resolvers)

-- ---- back to the record's oldest version

-- the part of transaction t, number n of the record, that resolver r gets
abbrev pub part_of : Config → Record → ResolverNumber → TransactionNumber → StampedTransaction
    → Part
part_of config rec r n t = part_back_to (oldest config rec) rec r n t

-- resolver r gets a part of the transaction
abbrev pub asks : Config → Record → ResolverNumber → StampedTransaction → Bool
asks config rec r t = asks_back_to (oldest config rec) rec r t

-- the parts that resolver r gets of these transactions, numbered from n
abbrev pub parts_from :
    Config → Record → ResolverNumber → TransactionNumber → List StampedTransaction → List Part
parts_from config rec r n ts = parts_back_to (oldest config rec) rec r n ts

-- the share of resolver r in a record
abbrev pub share : Config → Record → ResolverNumber → List Part
share config rec r = share_back_to (oldest config rec) rec r

-- the resolvers that get a part of the transaction, in increasing order
abbrev pub asked : Config → Record → StampedTransaction → List ResolverNumber
asked config rec t = asked_back_to (oldest config rec) config.resolvers rec t
