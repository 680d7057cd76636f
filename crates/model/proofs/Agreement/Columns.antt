-- What columns of verdict cells say one by one, and what replies by them say.
use Rattle.std.proofs.Common.{◌≡◌, refl, sym, ap, ◌∙◌, ℕ, ◌<◌, List, [], length, take, true, slice_get, Option, Some, None, option_map, arith}
use Rattle.std.proofs.lemmas.Option.{slice_get-map}
use Rattle.std.specs.Prelude.{unwrap_or}
use Rattle.model.specs.Configs.{Config}
use Rattle.model.specs.declared.verdict.Verdict.{Verdict}
use Rattle.model.specs.declared.reply.Reply.{Reply}
use Rattle.model.specs.Transactions.{StampedTransaction}
use Rattle.model.specs.Records.{Record, IsHistory}
use Rattle.model.specs.Shares.{share, share_back_to, asks, each_below}
use Rattle.model.specs.Verdicts.{share_verdicts}
use Rattle.model.specs.Journal.{VerdictSource, AgreeOn, history_verdicts, verdict_or_conflict, list_at, cell_verdicts, cell_verdict_in_row, unseen}
use Rattle.model.specs.World.{reply_with, reply_of}
use Rattle.model.specs.Agreed.{Column, Columns, IsVerdictColumn}
use Rattle.model.specs.Finishing.{Replies, verdicts_of_reply, AreRepliesBy, replied_verdicts}
use Rattle.model.specs.ColumnVerdicts.{column_verdicts, reply_by_column, AreRepliesByColumns}
use Rattle.model.specs.Laws.Agreement.{ColumnsGiveReplies}
use Rattle.model.proofs.Agreement.AgreeingSources.{unseen_of_one}
use Rattle.model.proofs.Verdicts.Places.{row_at, slice_get-take}
use Rattle.model.proofs.Shares.Askers.{share_verdicts_are, verdict_at_asker}
use Rattle.model.proofs.Journals.ReplyRows.{slice_get-each_below}

-- ---- verdicts

pub cells_by_column : (config : Config) (h : List Record) (columns : Columns) (r i n : ℕ) → cell_verdicts config h columns r i n ≡ column_verdicts config h (list_at columns r) r i n
unfolding cell_verdicts column_verdicts
cells_by_column config h columns r i n = refl

pub column_says : (config : Config) (h : List Record) (column : Column) (r i n : ℕ) (rec : Record) (t : StampedTransaction) → slice_get h i ≡ Some rec → slice_get rec.batch n ≡ Some t → asks config rec r t ≡ true
    → list_at column i ≡ share_verdicts config r (take i h) rec → column_verdicts config h column r i n ≡ history_verdicts config h r i n
unfolding column_verdicts history_verdicts share_back_to
column_says config h column r i n rec t at there asking cell =
    rw (at, there, cell, share_verdicts_are config r (take i h) rec) (verdict_at_asker config r (take i h) rec [] rec.batch 0 n n t refl (omega arith) there asking)

-- ---- replies

pub replies_say : (config : Config) (verdict_by : VerdictSource) (before : List Record) (rec : Record) (replies : Replies) → AreRepliesBy config verdict_by before rec replies → AgreeOn config (replied_verdicts config rec replies) verdict_by rec
unfolding replied_verdicts
replies_say config verdict_by before rec replies replied =
    record {
      same = λ r n t below there asking.
          let (verdicts, found, size, same) = replied r below in
          ap (λ (reply : Option Reply). verdict_or_conflict (share config rec r) (verdicts_of_reply reply) n) found ∙ same n t there asking;
    }

pub columns_give_replies : ColumnsGiveReplies
columns_give_replies config h columns rec r there =
    ap (λ (found : Option (Option Reply)). unwrap_or found None)
    (slice_get-map reply_by (each_below config.resolvers) r ∙ ap (option_map reply_by) (slice_get-each_below config.resolvers r there))
  where
    reply_by : ℕ → Option Reply
    reply_by s = Some (reply_by_column config h (list_at columns s) s rec)

-- two replies with the same verdicts and unseen rows
reply_alike : (r : ℕ) (rec : Record) (before : List Record) (verdicts others : List Verdict) (verdict_by other : VerdictSource) → verdicts ≡ others → unseen verdict_by r before rec ≡ unseen other r before rec
    → reply_with verdicts verdict_by r before rec ≡ reply_with others other r before rec
reply_alike r rec before verdicts others verdict_by other same rows =
    λ i. record { resolver = r; proxy = rec.proxy; row = rec.row; version = rec.version; verdicts = same i; unseen = rows i }

cell_at : (config : Config) (h : List Record) (columns : Columns) (r n : ℕ) (rec : Record) → slice_get h rec.row ≡ Some rec → verdict_or_conflict (share config rec r) (list_at (list_at columns r) rec.row) n ≡ cell_verdicts config h columns r rec.row n
unfolding cell_verdicts
cell_at config h columns r n rec at = sym (ap (cell_verdict_in_row config (list_at (list_at columns r) rec.row) r n) at)

pub replies_by_cells : (config : Config) (h : List Record) (columns : Columns) (rec : Record) (replies : Replies) → slice_get h rec.row ≡ Some rec
    → ((r : ℕ) → r < config.resolvers → length (list_at (list_at columns r) rec.row) ≡ length (share config rec r))
    → AreRepliesByColumns config h columns rec replies → AreRepliesBy config (cell_verdicts config h columns) (take rec.row h) rec replies
replies_by_cells config h columns rec replies at sizes replied r below =
    let rows = unseen_of_one config (column_verdicts config h (list_at columns r)) (cell_verdicts config h columns) r (take rec.row h) rec (λ k s there n t is asking. sym (cells_by_column config h columns r s.row n)) in
    let same = reply_alike r rec (take rec.row h) (list_at (list_at columns r) rec.row) (list_at (list_at columns r) rec.row) (column_verdicts config h (list_at columns r)) (cell_verdicts config h columns) refl rows in
    (list_at (list_at columns r) rec.row, replied r below ∙ ap (λ (reply : Reply). Some reply) same, sizes r below, λ n t there asking. cell_at config h columns r n rec at)

pub reply_to_the_record : (config : Config) (h : List Record) (column : Column) (r : ℕ) (rec : Record) → IsHistory config h → slice_get h rec.row ≡ Some rec → IsVerdictColumn config h r column
    → reply_by_column config h column r rec ≡ reply_of config (history_verdicts config h) r (take rec.row h) rec
reply_to_the_record config h column r rec history at cells =
    reply_alike r rec (take rec.row h) (list_at column rec.row) (share_verdicts config r (take rec.row h) rec) (column_verdicts config h column) (history_verdicts config h) (cells rec.row rec at)
    (unseen_of_one config (column_verdicts config h column) (history_verdicts config h) r (take rec.row h) rec earlier)
  where
    earlier : (k : ℕ) (s : Record) → slice_get (take rec.row h) k ≡ Some s → (n : ℕ) (t : StampedTransaction) → slice_get s.batch n ≡ Some t → asks config s r t ≡ true → column_verdicts config h column r s.row n ≡ history_verdicts config h r s.row n
    earlier k s there n t is asking =
        let found : slice_get h k ≡ Some s = (slice_get-take h rec.row k s there).1 in
        let row : s.row ≡ k = row_at config h k s history found in
        let here : slice_get h s.row ≡ Some s = ap (slice_get h) row ∙ found in
        column_says config h column r s.row n s t here is asking (cells s.row s here)
