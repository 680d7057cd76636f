-- What the lists of asked resolvers say of the shares of a record.
use Rattle.std.specs.Prelude.{◌≡◌, ℕ, List, [], ◌∷◌, Bool, length, filter, map, nat_eq}
use Rattle.std.specs.Prelude.{unwrap_or, slice_get, drop, if◌then◌else◌, ◌&&◌}
use Rattle.std.specs.List.{list_any}
use Rattle.model.specs.Configs.{Config}
use Rattle.model.specs.Shares.{asked, each_below}
use Rattle.model.specs.Journal.{VerdictSource}
use Rattle.model.specs.Finishing.{Replies, reply_from, verdicts_of_reply}
use Rattle.model.specs.declared.reply.Reply.{Reply}
use Rattle.model.specs.Records.{Record}
use Rattle.model.specs.declared.verdict.Verdict.{Verdict}
use Rattle.model.specs.declared.verdict.Verdict.TheVariants.{Conflict}
use Rattle.proxy_state.specs.declared.begun_record.BegunRecord.{BegunRecord}

-- beside the record stand the resolvers that it asks about each transaction
abbrev pub AskedAreKept : Config → BegunRecord → Type 0
AskedAreKept config begun = begun.asked ≡ map (asked config begun.rec) begun.rec.batch

-- the resolver is in the list
abbrev pub is_resolver_in : (r : ℕ) → List ℕ → Bool
is_resolver_in r list = list_any (λ a. nat_eq a r) list

-- how many of the lists have the resolver
abbrev pub count_parts_for : (r : ℕ) → List (List ℕ) → ℕ
count_parts_for r lists = length (filter (is_resolver_in r) lists)

-- the first verdict, or Conflict if there is none
abbrev pub first_verdict : List Verdict → Verdict
first_verdict verdicts = unwrap_or (slice_get verdicts 0) Conflict

-- The verdicts of resolver r, one for each list: the next of these verdicts if the list has r, and
-- Conflict if it has not or if no verdict is left.
abbrev pub column_of_resolver : (r : ℕ) → List (List ℕ) → List Verdict → List Verdict
column_of_resolver r [] verdicts = []
column_of_resolver r (list ∷ lists) verdicts =
    if is_resolver_in r list
    then first_verdict verdicts ∷ column_of_resolver r lists (drop 1 verdicts)
    else Conflict ∷ column_of_resolver r lists verdicts

-- the reply has the numbers of resolver r and of the record, and this number of verdicts
abbrev pub has_reply_numbers : Record → (r count : ℕ) → Reply → Bool
has_reply_numbers rec r count reply =
    nat_eq reply.resolver r
    && nat_eq reply.proxy rec.proxy
    && nat_eq reply.row rec.row
    && nat_eq reply.version rec.version
    && nat_eq (length reply.verdicts) count

-- a column for each resolver, by the verdicts that it replied
abbrev pub columns_of_replies : (resolvers : ℕ) → List (List ℕ) → Replies → List (List Verdict)
columns_of_replies resolvers lists replies =
    map (λ r. column_of_resolver r lists (verdicts_of_reply (reply_from replies r))) (each_below resolvers)

-- the verdicts on a record by columns, whatever row is named: the verdict of resolver r on transaction n is
-- element n of its column, or Conflict if there is none
abbrev pub by_columns : (columns : List (List Verdict)) → VerdictSource
by_columns columns r i n =
    unwrap_or (slice_get (unwrap_or (slice_get columns r) []) n) Conflict
