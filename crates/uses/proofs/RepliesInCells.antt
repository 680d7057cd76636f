-- A reply stands in its resolver's cell of the row.
use Rattle.std.proofs.Common.{◌≡◌, refl, sym, ap, ◌∙◌, subst, ℕ, zero, suc, ◌+◌, ◌<◌, ◌≤◌, List, [], ◌∷◌, append-nil, take, length, length-append, slice_get, Some, arith}
use Rattle.std.specs.Prelude.{◌⊎◌, IsFalse, Result, Ok, Err, OnErr}
use Rattle.std.proofs.lemmas.List.{take_all}
use mathlib.Core.Logic.{inl, inr}
use Rattle.model.specs.Configs.{Config}
use Rattle.model.specs.Records.{Record}
use Rattle.model.specs.declared.reply.Reply.{Reply}
use Rattle.model.specs.Agreed.{Column}
use Rattle.model.specs.Journal.{history_verdicts, list_at}
use Rattle.model.specs.World.{reply_of}
use Rattle.locked_resolvers.specs.Requests.{RequestView}
use Rattle.locked_resolvers.specs.NotedReplies.{NotedReplyView, IsNotedReply}
use Rattle.locked_resolvers.specs.Resolvers.{LockedResolverView, ShowsReply, HasOffered, HasJudged, HasRepeated, after_refusal}
use Rattle.locked_resolvers.specs.declared.refusal.Refusal.{Refusal}
use Rattle.locked_resolvers.specs.declared.refusal.Refusal.TheVariants as refusals
use Rattle.uses.specs.Resolving.{StandsInItsCell, RepliesInItsCell, KeepsAll}

at_place : {X : Type 0} (lists : List (List X)) (i : ℕ) → i < length lists → slice_get lists i ≡ Some (list_at lists i)
at_place [] i within = absurd (omega (arith, within))
at_place (list ∷ lists) zero within = refl
at_place (list ∷ lists) (suc i) within = at_place lists i (omega (arith, within))

-- the verdicts of a reply stand in the column that came with it
in_column : (config : Config) (noted : NotedReplyView) → IsNotedReply config noted → slice_get noted.column noted.reply.row ≡ Some noted.reply.verdicts
in_column config noted is =
    let cells = is.cells in
    let last = is.last in
    at_place noted.column noted.reply.row (omega (arith, cells, last))
    ∙ ap (λ verdicts. Some verdicts) (is.verdicts noted.reply.row is.rec is.there ∙ sym (ap (λ (reply : Reply). reply.verdicts) is.reply_is))

pub stands : (config : Config) (request : RequestView) (noted : NotedReplyView) (v : LockedResolverView) → IsNotedReply config noted → ShowsReply request noted v → StandsInItsCell request noted v
stands config request noted v is shows =
    record {
      is_open = shows.is_open;
      number = shows.number ∙ shows.reply_to.resolver;
      reply_to = shows.reply_to;
      reached = subst (λ (n : ℕ). n ≤ v.memory.version) shows.reply_to.version shows.reached;
      noted_records = shows.noted_records;
      records = shows.records;
      cell = ap (λ (column : Column). slice_get column request.plain.row) (sym shows.column) ∙ ap (slice_get noted.column) (sym shows.reply_to.row) ∙ in_column config noted is;
    }

module _ (config : Config) (before : LockedResolverView) (request : RequestView) (after : LockedResolverView) (noted : NotedReplyView) (is : IsNotedReply config noted) (has : HasOffered before request after noted) where
  -- the resolver is that of the reply
  number_of : after.memory.number ≡ before.memory.number → after.memory.number ≡ noted.reply.resolver
  number_of same = same ∙ sym has.own ∙ sym has.reply_to.resolver

  judged : HasJudged before request after noted → RepliesInItsCell before request after noted
  judged one =
      record {
        stands = stands config request noted after is (record {
          is_open = subst IsFalse (sym one.closed) has.is_open;
          number = number_of one.number;
          reply_to = has.reply_to;
          reached = subst (λ (n : ℕ). noted.reply.version ≤ n) (sym one.version) (omega arith);
          noted_records = one.noted_records;
          records = ap (λ (rs : List Record). take (request.plain.row + 1) rs) one.records ∙ take_all (request.plain.row + 1) request.records within;
          column = one.noted_column;
        });
        answer = λ requests stand. inl (one.answer requests stand);
        was_open = has.is_open;
        number = one.number;
        memory = inl one.gains;
        records = (one.rec ∷ [], one.records ∙ one.grown);
        column = (noted.reply.verdicts ∷ [], one.column);
      }
    where
      within : length request.records ≤ request.plain.row + 1
      within =
          let count = ap length one.grown ∙ length-append before.records (one.rec ∷ []) in
          let row = one.row in
          omega (arith, count, row)

  repeated : HasRepeated before request after noted → RepliesInItsCell before request after noted
  repeated one =
      record {
        stands = stands config request noted after is (record {
          is_open = subst (λ (v : LockedResolverView). IsFalse v.closed) (sym one.unchanged) has.is_open;
          number = number_of same;
          reply_to = has.reply_to;
          reached = subst (λ (v : LockedResolverView). noted.reply.version ≤ v.memory.version) (sym one.unchanged) one.version;
          noted_records = one.noted_records;
          records = ap (λ (v : LockedResolverView). take (request.plain.row + 1) v.records) one.unchanged ∙ one.records;
          column = one.noted_column ∙ sym (ap (λ (v : LockedResolverView). v.column) one.unchanged);
        });
        answer = λ requests stand. inr (one.answer requests stand);
        was_open = has.is_open;
        number = same;
        memory = inr (ap (λ (v : LockedResolverView). v.memory) one.unchanged);
        records = ([], ap (λ (v : LockedResolverView). v.records) one.unchanged ∙ sym (append-nil before.records));
        column = ([], ap (λ (v : LockedResolverView). v.column) one.unchanged ∙ sym (append-nil before.column));
      }
    where
      same : after.memory.number ≡ before.memory.number
      same = ap (λ (v : LockedResolverView). v.memory.number) one.unchanged

  by_case : HasJudged before request after noted ⊎ HasRepeated before request after noted → RepliesInItsCell before request after noted
  by_case (inl one) = judged one
  by_case (inr one) = repeated one

  pub replies : RepliesInItsCell before request after noted
  replies = by_case has.done

-- ---- a second offer

-- a request that was judged, or given its reply again, is given its reply again
repeats : (before between after : LockedResolverView) (request copy : RequestView) (noted again : NotedReplyView) → copy ≡ request
    → HasOffered before request between noted → HasOffered between copy after again → HasRepeated between copy after again
repeats before between after request copy noted again same one two = by one.done two.done
  where
    by : HasJudged before request between noted ⊎ HasRepeated before request between noted → HasJudged between copy after again ⊎ HasRepeated between copy after again → HasRepeated between copy after again
    by (inl first) (inl second) =
        let count = ap length first.records ∙ ap length first.grown ∙ length-append before.records (first.rec ∷ []) in
        let row = first.row in
        let next = second.row in
        let copied : copy.plain.row ≡ request.plain.row = ap (λ (q : RequestView). q.plain.row) same in
        absurd (omega (arith, count, row, next, copied))
    by (inr first) (inl second) =
        let count = ap (λ (v : LockedResolverView). length v.records) first.unchanged in
        let row = first.row in
        let next = second.row in
        let copied : copy.plain.row ≡ request.plain.row = ap (λ (q : RequestView). q.plain.row) same in
        absurd (omega (arith, count, row, next, copied))
    by first (inr second) = second

-- the cells that came with a reply are those of the resolver then
column_of : (before between : LockedResolverView) (request : RequestView) (noted : NotedReplyView) → HasOffered before request between noted → noted.column ≡ between.column
column_of before between request noted one = by one.done
  where
    by : HasJudged before request between noted ⊎ HasRepeated before request between noted → noted.column ≡ between.column
    by (inl first) = first.noted_column
    by (inr first) = first.noted_column ∙ sym (ap (λ (v : LockedResolverView). v.column) first.unchanged)

records_of : (before between : LockedResolverView) (request : RequestView) (noted : NotedReplyView) → HasOffered before request between noted → noted.records ≡ request.records
records_of before between request noted one = by one.done
  where
    by : HasJudged before request between noted ⊎ HasRepeated before request between noted → noted.records ≡ request.records
    by (inl first) = first.noted_records
    by (inr first) = first.noted_records

-- two replies of one resolver to the last of the same records
same_reply : (config : Config) (noted again : NotedReplyView) (one : IsNotedReply config noted) (two : IsNotedReply config again)
    → again.records ≡ noted.records → again.reply.row ≡ noted.reply.row → again.reply.resolver ≡ noted.reply.resolver → again.reply ≡ noted.reply
same_reply config noted again one two records row resolver =
    two.reply_is
    ∙ (λ i. reply_of config (history_verdicts config (records i)) (resolver i) (take (row i) (records i)) (rec i))
    ∙ sym one.reply_is
  where
    only : (a b : Record) → Some a ≡ Some b → a ≡ b
    only a b both = cc

    rec : two.rec ≡ one.rec
    rec = only two.rec one.rec (sym two.there ∙ (λ i. slice_get (records i) (row i)) ∙ one.there)

pub twice_same : (config : Config) (before between after : LockedResolverView) (request copy : RequestView) (noted again : NotedReplyView) → copy ≡ request
    → HasOffered before request between noted → HasOffered between copy after again → IsNotedReply config noted → IsNotedReply config again → again ≡ noted
twice_same config before between after request copy noted again same one two is is_again =
    λ i. record { reply = reply i; records = records i; column = column i }
  where
    second : HasRepeated between copy after again
    second = repeats before between after request copy noted again same one two

    records : again.records ≡ noted.records
    records = second.noted_records ∙ ap (λ (q : RequestView). q.records) same ∙ sym (records_of before between request noted one)

    column : again.column ≡ noted.column
    column = second.noted_column ∙ sym (column_of before between request noted one)

    reply : again.reply ≡ noted.reply
    reply = same_reply config noted again is is_again records (two.reply_to.row ∙ ap (λ (q : RequestView). q.plain.row) same ∙ sym one.reply_to.row) (two.reply_to.resolver ∙ ap (λ (q : RequestView). q.plain.resolver) same ∙ sym one.reply_to.resolver)

pub twice_replies : (config : Config) (before between after : LockedResolverView) (request copy : RequestView) (noted again : NotedReplyView) → copy ≡ request
    → HasOffered before request between noted → HasOffered between copy after again → IsNotedReply config noted → RepliesInItsCell before request after noted
twice_replies config before between after request copy noted again same one two is =
    subst (λ (v : LockedResolverView). RepliesInItsCell before request v noted) (sym (repeats before between after request copy noted again same one two).unchanged) (replies config before request between noted is one)

-- ---- a refused offer

-- what holds holds of an error too
pub on_err : {T E : Type 0} (P : Type 0) (r : Result T E) → P → OnErr r P
on_err P (Ok x) p = tt
on_err P (Err e) p = p

pub keeps_all : (before after : LockedResolverView) (refusal : Refusal) → after ≡ after_refusal before refusal → KeepsAll before after
keeps_all before after refusals.CellTaken is = inr is
keeps_all before after (refusals.Early version) is = inl is
keeps_all before after (refusals.GivenUp acknowledged) is = inl is
keeps_all before after refusals.NoSuchProxy is = inl is
keeps_all before after refusals.WrongResolver is = inl is
keeps_all before after (refusals.OutsideChain version) is = inl is
keeps_all before after refusals.NotMine is = inl is
keeps_all before after (refusals.OutOfOrder expected) is = inl is
keeps_all before after (refusals.OutOfTurn expected) is = inl is
keeps_all before after (refusals.NotReached version) is = inl is
keeps_all before after refusals.Closed is = inl is
keeps_all before after refusals.OutOfMemory is = inl is
