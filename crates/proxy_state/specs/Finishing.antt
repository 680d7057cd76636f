-- Which replies a proxy refuses to finish a record by (this project's profile), and the finished
-- batch by the verdicts of columns.
use Rattle.std.specs.Prelude.{◌≡◌, ℕ, suc, List, [], ◌∷◌, map, Bool, Option, Some, None}
use Rattle.model.specs.Numbers.{Version, TransactionNumber}
use Rattle.model.specs.Configs.{Config}
use Rattle.model.specs.declared.verdict.Verdict.{Verdict}
use Rattle.model.specs.declared.outcome.Outcome.{Outcome}
use Rattle.model.specs.declared.outcome.Finished.{Finished}
use Rattle.model.specs.Transactions.{StampedTransaction}
use Rattle.model.specs.Records.{Record}
use Rattle.model.specs.Verdicts.{joined}
use Rattle.model.specs.Metadata.{Entries, after_journal_row}
use Rattle.model.specs.Outcomes.{outcome_of_verdict, is_refused, outcomes_from}
use Rattle.model.specs.World.{tagged_all}
use Rattle.model.specs.Journal.{journal_row, AgreeOn}
use Rattle.model.specs.Finishing.{ProxyView, Replies, unreplied, disagreements, rows_by_replies}
use Rattle.model.specs.Finishing.{replied_verdicts, AgreeOnRows}
use Rattle.metadata.specs.Started.{after_rows}
use Rattle.proxy_state.specs.Learning.{AskedAreKept, by_columns}
use Rattle.proxy_state.specs.declared.begun_record.BegunRecord.{BegunRecord}
use Rattle.proxy_state.specs.declared.learned.Learned.{Learned}
use Rattle.proxy_state.specs.declared.refusal.Refusal.{Refusal}
use Rattle.proxy_state.specs.declared.refusal.Refusal.TheVariants.{OutOfTurn, MissingReply}
use Rattle.proxy_state.specs.declared.refusal.Refusal.TheVariants.{RepliesDisagree}

-- the fault of replies by some resolvers that have not replied, and by the versions at which the
-- replies disagree: the first of the resolvers, or else the first of the versions
abbrev pub replies_fault : (unreplied disagreements : List ℕ) → Option Refusal
replies_fault (resolver ∷ others) versions = Some (MissingReply resolver)
replies_fault [] (version ∷ later) = Some (RepliesDisagree version)
replies_fault [] [] = None

-- the fault of replies by which a proxy is to finish the first of these records
abbrev pub fault_for : ProxyView → Replies → (begun : List Record) → Option Refusal
fault_for v replies [] = Some (OutOfTurn None)
fault_for v replies (rec ∷ rest) =
    replies_fault (unreplied v.config.resolvers replies) (disagreements v.config v.version rec replies)

-- The first fault of replies by which a proxy is to finish its earliest record: it has begun none; or
-- else a resolver has not replied, and the least such one is named; or else the replies disagree, and
-- the first version at which they do is named.
abbrev pub finish_fault : ProxyView → Replies → Option Refusal
finish_fault v replies = fault_for v replies v.begun

-- ---- the earliest record

-- the begun record is the earliest of the proxy, beside it are the resolvers that it asks, and the
-- replies to it agree on the rows that they tell
pub record IsReplied (v : ProxyView) (replies : Replies) (begun : BegunRecord) : Type 0 where
  pub rest : List Record
  pub begun_is : v.begun ≡ begun.rec ∷ rest
  pub asking : AskedAreKept v.config begun
  pub agree :
      AgreeOnRows v.config v.version begun.rec replies (rows_by_replies v.config.resolvers replies)

-- what the replies to the earliest record of the proxy tell: the rows that it has not seen, on which
-- they agree, and its own row by columns of verdicts that are those of the replies
pub record IsLearned (v : ProxyView) (replies : Replies) (learned : Learned) : Type 0 where
  pub rec : Record
  pub rest : List Record
  pub begun_is : v.begun ≡ rec ∷ rest
  pub agree : AgreeOnRows v.config v.version rec replies learned.told.items
  pub own : learned.own ≡ journal_row v.config (by_columns learned.columns.items) rec
  pub alike :
      AgreeOn v.config (by_columns learned.columns.items)
      (replied_verdicts v.config rec replies) rec

-- ---- the finished batch

-- the outcome of transaction n of a record of this version, which asks the resolvers of the list
abbrev pub outcome_of_transaction :
    (columns : List (List Verdict)) (locked : Bool) → Version → (n : TransactionNumber)
    → StampedTransaction → (list : List ℕ) → Outcome
outcome_of_transaction columns locked version n t list =
    outcome_of_verdict (joined (map (λ r. by_columns columns r 0 n) list)) (is_refused locked t) version n

-- the outcomes of some transactions of a record of this version, numbered from n; beside each
-- transaction stands the list of the resolvers that it asks
abbrev pub outcomes_by_columns :
    (columns : List (List Verdict)) (locked : Bool) → Version → (n : TransactionNumber)
    → List StampedTransaction → (lists : List (List ℕ)) → List Outcome
outcomes_by_columns columns locked version n [] lists = []
outcomes_by_columns columns locked version n (t ∷ ts) [] = []
outcomes_by_columns columns locked version n (t ∷ ts) (list ∷ lists) =
    outcome_of_transaction columns locked version n t list
    ∷ outcomes_by_columns columns locked version (suc n) ts lists

-- the finished batch of a record by the verdicts of columns; `locked` is the lock before it, and
-- `entries` is the metadata after it
abbrev pub finished_by_columns :
    Config → (columns : List (List Verdict)) (locked : Bool) (entries : Entries) → Record → Finished
finished_by_columns config columns locked entries rec =
    let results = outcomes_from config (by_columns columns) locked rec 0 rec.batch in
    record {
      row = rec.row;
      version = rec.version;
      outcomes = results;
      tagged = tagged_all entries rec.batch results;
    }

-- the metadata after the rows that the replies tell, and after the record's own row
abbrev pub after_told : Entries → Learned → Entries
after_told entries learned = after_rows entries learned.told.items

abbrev pub after_batch : Entries → Learned → Entries
after_batch entries learned = after_journal_row (after_told entries learned) learned.own
