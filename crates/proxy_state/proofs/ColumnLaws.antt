-- The verdicts by columns are those that the replies give, so that both give the same finished batch.
use Rattle.std.proofs.Common.{◌≡◌, refl, sym, ap, ◌∙◌, ℕ, zero, suc, ◌+◌, ◌<◌, List, [], ◌∷◌, map, length, drop, Bool, true, false, if◌then◌else◌, nat_eq, slice_get, Option, Some, unwrap_or, arith}
use Rattle.std.proofs.lemmas.Option.{slice_get-map, slice_get_within}
use Rattle.std.proofs.lemmas.Bool.{eqb-true, eqb-false}
use Rattle.model.specs.Configs.{Config}
use Rattle.model.specs.declared.part.Part.{Part}
use Rattle.model.specs.declared.verdict.Verdict.{Verdict}
use Rattle.model.specs.declared.verdict.Verdict.TheVariants.{Conflict}
use Rattle.model.specs.Transactions.{StampedTransaction}
use Rattle.model.specs.Records.{Record}
use Rattle.model.specs.Shares.{share_back_to, parts_from, part_of, asks, asked}
use Rattle.model.specs.Journal.{verdict_or_conflict, AgreeOn}
use Rattle.model.specs.Outcomes.{outcome, joined_verdict, outcomes_from}
use Rattle.model.specs.Finishing.{Replies, reply_from, verdicts_of_reply, replied_verdicts}
use Rattle.model.proofs.Journals.ReplyRows.{slice_get-each_below}
use Rattle.proxy_state.specs.Learning.{first_verdict, column_of_resolver, columns_of_replies, by_columns}
use Rattle.proxy_state.specs.Finishing.{outcomes_by_columns}
use Rattle.proxy_state.proofs.AskedParts.{is_in_asked}

-- ---- one column

no_verdicts : (parts : List Part) (n : ℕ) → verdict_or_conflict parts [] n ≡ Conflict
no_verdicts [] n = refl
no_verdicts (part ∷ parts) n = refl

-- parts numbered from m have no verdict for a lower number
later_parts : (config : Config) (rec : Record) (r m : ℕ) (ts : List StampedTransaction) (verdicts : List Verdict) (n : ℕ) → n < m → verdict_or_conflict (parts_from config rec r m ts) verdicts n ≡ Conflict
later_parts config rec r m [] verdicts n below = refl
later_parts config rec r m (t ∷ ts) verdicts n below = by (asks config rec r t) verdicts (λ rest. later_parts config rec r (suc m) ts rest n (omega (arith, below)))
  where
    other : (b : Bool) → nat_eq m n ≡ b → (verdict : Verdict) (v : Verdict) → v ≡ Conflict → (if b then verdict else v) ≡ Conflict
    other true same verdict v is = absurd (omega (arith, below, eqb-true m n same))
    other false differ verdict v is = is

    by : (b : Bool) (verdicts : List Verdict) → ((rest : List Verdict) → verdict_or_conflict (parts_from config rec r (suc m) ts) rest n ≡ Conflict) → verdict_or_conflict (if b then part_of config rec r m t ∷ parts_from config rec r (suc m) ts else parts_from config rec r (suc m) ts) verdicts n ≡ Conflict
    by true [] rest = refl
    by true (verdict ∷ verdicts) rest = other (nat_eq m n) refl verdict (verdict_or_conflict (parts_from config rec r (suc m) ts) verdicts n) (rest verdicts)
    by false verdicts rest = rest verdicts

-- element k of a column is the verdict on transaction m + k
column_at : (config : Config) (rec : Record) (r m : ℕ) (ts : List StampedTransaction) (verdicts : List Verdict) (k n : ℕ) → r < config.resolvers → k < length ts → n ≡ m + k
    → slice_get (column_of_resolver r (map (asked config rec) ts) verdicts) k ≡ Some (verdict_or_conflict (parts_from config rec r m ts) verdicts n)
column_at config rec r m [] verdicts k n below within is = absurd (omega (arith, within))
column_at config rec r m (t ∷ ts) verdicts k n below within is =
    rw (is_in_asked config rec t r below) (by (asks config rec r t) verdicts k within is (λ rest j inside is_next. column_at config rec r (suc m) ts rest j n below inside is_next))
  where
    front : (b : Bool) → nat_eq m n ≡ b → n ≡ m → (verdict : Verdict) (v : Verdict) → Some verdict ≡ Some (if b then verdict else v)
    front true same is verdict v = refl
    front false differ is verdict v = absurd (eqb-false m n differ (sym is))

    later : (b : Bool) → nat_eq m n ≡ b → m < n → (found : Option Verdict) (verdict : Verdict) (v : Verdict) → found ≡ Some v → found ≡ Some (if b then verdict else v)
    later true same more found verdict v is = absurd (omega (arith, more, eqb-true m n same))
    later false differ more found verdict v is = is

    by : (b : Bool) (verdicts : List Verdict) (k : ℕ) → k < length (t ∷ ts) → n ≡ m + k
        → ((rest : List Verdict) (j : ℕ) → j < length ts → n ≡ suc m + j → slice_get (column_of_resolver r (map (asked config rec) ts) rest) j ≡ Some (verdict_or_conflict (parts_from config rec r (suc m) ts) rest n))
        → slice_get (if b then first_verdict verdicts ∷ column_of_resolver r (map (asked config rec) ts) (drop 1 verdicts) else Conflict ∷ column_of_resolver r (map (asked config rec) ts) verdicts) k
        ≡ Some (verdict_or_conflict (if b then part_of config rec r m t ∷ parts_from config rec r (suc m) ts else parts_from config rec r (suc m) ts) verdicts n)
    by true [] zero within is next = refl
    by true [] (suc k) within is next = next [] k (omega (arith, within)) (omega (arith, is)) ∙ ap (λ (v : Verdict). Some v) (no_verdicts (parts_from config rec r (suc m) ts) n)
    by true (verdict ∷ verdicts) zero within is next = front (nat_eq m n) refl (omega (arith, is)) verdict (verdict_or_conflict (parts_from config rec r (suc m) ts) verdicts n)
    by true (verdict ∷ verdicts) (suc k) within is next =
        later (nat_eq m n) refl (omega (arith, is)) (slice_get (column_of_resolver r (map (asked config rec) ts) verdicts) k) verdict (verdict_or_conflict (parts_from config rec r (suc m) ts) verdicts n) (next verdicts k (omega (arith, within)) (omega (arith, is)))
    by false verdicts zero within is next = ap (λ (v : Verdict). Some v) (sym (later_parts config rec r (suc m) ts verdicts n (omega (arith, is))))
    by false verdicts (suc k) within is next = next verdicts k (omega (arith, within)) (omega (arith, is))

-- ---- all columns

column_there : (resolvers r : ℕ) (lists : List (List ℕ)) (replies : Replies) → r < resolvers → slice_get (columns_of_replies resolvers lists replies) r ≡ Some (column_of_resolver r lists (verdicts_of_reply (reply_from replies r)))
column_there resolvers r lists replies below = rw (slice_get-map, slice_get-each_below resolvers r below) refl

pub columns_agree : (config : Config) (rec : Record) (replies : Replies) → AgreeOn config (by_columns (columns_of_replies config.resolvers (map (asked config rec) rec.batch) replies)) (replied_verdicts config rec replies) rec
unfolding replied_verdicts share_back_to
columns_agree config rec replies =
    record {
      same = λ r n t below at asking.
          ap (λ (column : Option (List Verdict)). unwrap_or (slice_get (unwrap_or column []) n) Conflict) (column_there config.resolvers r (map (asked config rec) rec.batch) replies below)
          ∙ ap (λ (v : Option Verdict). unwrap_or v Conflict) (column_at config rec r 0 rec.batch (verdicts_of_reply (reply_from replies r)) n n below (slice_get_within rec.batch n t at) (omega arith));
    }

-- ---- outcomes

outcomes_listed : (config : Config) (columns : List (List Verdict)) (locked : Bool) (rec : Record) (n : ℕ) (ts : List StampedTransaction) → outcomes_by_columns columns locked rec.version n ts (map (asked config rec) ts) ≡ outcomes_from config (by_columns columns) locked rec n ts
unfolding outcome joined_verdict
outcomes_listed config columns locked rec n [] = refl
outcomes_listed config columns locked rec n (t ∷ ts) = λ i. outcome config (by_columns columns) locked rec n t ∷ outcomes_listed config columns locked rec (suc n) ts i

-- the same of what a call for them is given
pub outcomes_called : (config : Config) (columns : List (List Verdict)) (locked : Bool) (rec : Record) (version : ℕ) (batch : List StampedTransaction) (lists asking : List (List ℕ))
    → version ≡ rec.version → batch ≡ rec.batch → lists ≡ asking → asking ≡ map (asked config rec) rec.batch
    → outcomes_by_columns columns locked version 0 batch lists ≡ outcomes_from config (by_columns columns) locked rec 0 rec.batch
outcomes_called config columns locked rec version batch lists asking same_version same_batch same_lists is = rw (same_version, same_batch, same_lists, is) (outcomes_listed config columns locked rec 0 rec.batch)
