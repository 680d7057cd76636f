-- A locked proxy finishes the record that it began first, by the replies to it.
use Rattle.std.proofs.Common.{◌≡◌, refl, sym, ap, ◌∙◌, subst, ℕ, suc, ◌+◌, ◌*◌, ◌<◌, ◌≤◌, List, [], ◌∷◌, length, take, is_some, slice_get, Option, Some, None, arith}
use Rattle.std.proofs.lemmas.Option.{slice_get_within}
use Rattle.facts.specs.Stretches.{Agree}
use Rattle.model.specs.Configs.{Config}
use Rattle.model.specs.declared.reply.Reply.{Reply}
use Rattle.model.specs.declared.outcome.Finished.{Finished}
use Rattle.model.specs.declared.journal.JournalRow.{JournalRow}
use Rattle.model.specs.Records.{Record, last_moves, last_version, records_of_proxy}
use Rattle.model.specs.Journal.{history_verdicts, journal}
use Rattle.model.specs.World.{finished_batch, up_to_version}
use Rattle.model.specs.Agreed.{IsAgreed, AreVerdicts}
use Rattle.model.specs.Finishing.{ProxyView, HoldsMoves, HasFinished, AgreeOnRows, AreRepliesBy, reply_from, unreplied, disagreements}
use Rattle.model.specs.Laws.Proxies.{IsBefore, IsAfter, journal_up_to, unseen_rows}
use Rattle.model.proofs.History.Chain.{own_up_to_previous, up_to_front_are, version_before, versions_at}
use Rattle.model.proofs.History.Rows.{finished_row, finished_version_is, journal_counted}
use Rattle.model.proofs.Owners.Moves.{last_version_at}
use Rattle.model.proofs.Proxies.AgreeingReplies.{agreeing_do_not, none_below}
use Rattle.model.proofs.Proxies.Finishing.{true_agree, true_in_step}
use Rattle.proxy_state.specs.Finishing.{fault_for, finish_fault, replies_fault}
use Rattle.locked_cluster.specs.Ready.{ReadyView, IsReady}
use Rattle.locked_cluster.specs.Answers.{IsNotedFinished}
use Rattle.locked_cluster.specs.Proxies.{LockedProxyView, IsLockedProxy, IsFinishRefusal, FinishesReady, FollowOneAnother, first_row}
use Rattle.locked_resolvers.specs.declared.refusal.Refusal.TheVariants as refusals
use Rattle.locked_resolvers.proofs.Lists.{first_same, take_all}
use Rattle.locked_cluster.proofs.ProxyRows.{fewer_rows, first_rows, journal_of, known_by_history, own_last}

-- A locked proxy, the record that it finishes next, and the replies to this record. The numbers of the
-- cluster are those of the proxy.
pub record IsNext (v : LockedProxyView) (x : ReadyView) (rec : Record) (rest : List Record) : Type 0 where
  pub keeps : IsLockedProxy v.proxy.config v
  pub ready : IsReady v.proxy.config x
  pub begun : v.proxy.begun ≡ rec ∷ rest
  pub row : rec.row ≡ x.row
  pub own : rec.own_previous ≡ v.proxy.version
  pub agree : Agree 0 v.records 0 x.records

-- the same at the numbers of the cluster
pub is_next : (config : Config) (v : LockedProxyView) (x : ReadyView) (rec : Record) (rest : List Record) → IsLockedProxy config v → IsReady config x → v.proxy.begun ≡ rec ∷ rest → rec.row ≡ x.row → Agree 0 v.records 0 x.records → IsNext v x rec rest
is_next config v x rec rest keeps ready begun row agree =
    record {
      keeps = subst (λ (c : Config). IsLockedProxy c v) (sym keeps.config_of) keeps;
      ready = subst (λ (c : Config). IsReady c x) (sym keeps.config_of) ready;
      begun = begun;
      row = row;
      own = (subst (FollowOneAnother v.proxy.version v.proxy.last_begun) begun keeps.follow).0;
      agree = agree;
    }

-- ---- where the record stands

in_lock : (v : LockedProxyView) (x : ReadyView) (rec : Record) (rest : List Record) → IsNext v x rec rest → slice_get v.records rec.row ≡ Some rec
in_lock v x rec rest is = is.keeps.begun 0 rec (ap (λ (rs : List Record). slice_get rs 0) is.begun)

same_record : (v : LockedProxyView) (x : ReadyView) (rec : Record) (rest : List Record) (is : IsNext v x rec rest) → is.ready.rec ≡ rec
same_record v x rec rest is = sym (is.agree rec.row x.row rec is.ready.rec (ap (λ (k : ℕ). 0 + k) is.row) (in_lock v x rec rest is) is.ready.there)

in_ready : (v : LockedProxyView) (x : ReadyView) (rec : Record) (rest : List Record) → IsNext v x rec rest → slice_get x.records rec.row ≡ Some rec
in_ready v x rec rest is = ap (slice_get x.records) is.row ∙ is.ready.there ∙ ap (λ (r : Record). Some r) (same_record v x rec rest is)

-- the replies are those to this record
replied : (v : LockedProxyView) (x : ReadyView) (rec : Record) (rest : List Record) → IsNext v x rec rest → AreRepliesBy v.proxy.config (history_verdicts v.proxy.config x.records) (take rec.row x.records) rec x.replies
replied v x rec rest is =
    subst (λ (row : ℕ). AreRepliesBy v.proxy.config (history_verdicts v.proxy.config x.records) (take row x.records) rec x.replies) (sym is.row)
    (subst (λ (r : Record). AreRepliesBy v.proxy.config (history_verdicts v.proxy.config x.records) (take x.row x.records) r x.replies) (same_record v x rec rest is) is.ready.replied)

-- the rows that the proxy knows lie before it
known_before : (v : LockedProxyView) (x : ReadyView) (rec : Record) (rest : List Record) → IsNext v x rec rest → length v.proxy.journal ≤ rec.row
known_before v x rec rest is =
    let here = in_ready v x rec rest is in
    let below : rec.own_previous ≤ rec.previous = own_up_to_previous v.proxy.config x.records rec.row rec is.ready.history here in
    let at : rec.previous ≡ rec.row * v.proxy.config.step = (versions_at v.proxy.config x.records rec.row rec is.ready.history here).0 in
    let version = is.keeps.version in
    let own = is.own in
    fewer_rows (length v.proxy.journal) rec.row v.proxy.config.step is.keeps.config_is.step.0 (omega (arith, below, at, version, own))

-- the lock's records begin with those of the replies
all_of_ready : (v : LockedProxyView) (x : ReadyView) (rec : Record) (rest : List Record) → IsNext v x rec rest → take (suc rec.row) v.records ≡ x.records
all_of_ready v x rec rest is =
    let within : rec.row < length v.records = slice_get_within v.records rec.row rec (in_lock v x rec rest is) in
    let last = is.ready.last in
    let row = is.row in
    first_same (suc rec.row) v.records x.records is.agree (omega (arith, within)) (omega (arith, last, row)) ∙ take_all x.records (suc rec.row) (omega (arith, last, row))

-- ---- the proxy before the record

before : (v : LockedProxyView) (x : ReadyView) (rec : Record) (rest : List Record) → IsNext v x rec rest → IsBefore (history_verdicts v.proxy.config x.records) x.records v.proxy rec
before v x rec rest is =
    record {
      limits = is.keeps.config_is;
      history_is = is.ready.history;
      there = in_ready v x rec rest is;
      at = sym is.own;
      journal_is = journal_of c v is.keeps ∙ ap (λ (rs : List Record). journal c (history_verdicts c rs) rs) first ∙ sym (first_rows c x.records n is.ready.history within) ∙ ap (journal c (history_verdicts c x.records)) (sym front);
    }
  where
    c : Config
    c = v.proxy.config

    n : ℕ
    n = length v.proxy.journal

    within : n ≤ length x.records
    within = let last = is.ready.last in let row = is.row in let fewer = known_before v x rec rest is in omega (arith, last, row, fewer)

    first : take n v.records ≡ take n x.records
    first = first_same n v.records x.records is.agree is.keeps.agreed.rows within

    front : up_to_version v.proxy.version x.records ≡ take n x.records
    front =
        ap (λ (version : ℕ). up_to_version version x.records) (is.keeps.version ∙ sym (version_before c x.records n is.ready.history within))
        ∙ up_to_front_are c x.records n is.keeps.config_is.step.0 is.ready.history within

-- ---- the replies have no fault

pub no_fault : (v : LockedProxyView) (x : ReadyView) (rec : Record) (rest : List Record) → IsNext v x rec rest → finish_fault v.proxy x.replies ≡ None
no_fault v x rec rest is = ap (fault_for v.proxy x.replies) is.begun ∙ (λ i. replies_fault (all_replied i) (none_disagree i))
  where
    c : Config
    c = v.proxy.config

    by : AreRepliesBy c (history_verdicts c x.records) (take rec.row x.records) rec x.replies
    by = replied v x rec rest is

    all_replied : unreplied c.resolvers x.replies ≡ []
    all_replied = none_below (λ r. is_some (reply_from x.replies r)) c.resolvers (λ r there. ap (λ (found : Option Reply). is_some found) (by r there).1)

    agree : AgreeOnRows c rec.own_previous rec x.replies (unseen_rows c (history_verdicts c x.records) x.records rec)
    agree = true_agree c (history_verdicts c x.records) x.records rec x.replies is.keeps.config_is.step.0 is.ready.history (in_ready v x rec rest is) by

    none_disagree : disagreements c v.proxy.version rec x.replies ≡ []
    none_disagree = ap (λ (version : ℕ). disagreements c version rec x.replies) (sym is.own) ∙ agreeing_do_not c rec.own_previous rec x.replies (unseen_rows c (history_verdicts c x.records) x.records rec) is.keeps.config_is.resolvers.0 agree

-- ---- the proxy after the record

after : (v : LockedProxyView) (x : ReadyView) (rec : Record) (rest : List Record) (new : ProxyView) (finished : Finished) → IsNext v x rec rest → HasFinished v.proxy new x.replies finished
    → IsAfter (history_verdicts v.proxy.config x.records) x.records v.proxy new rec rest × (finished ≡ finished_batch v.proxy.config (history_verdicts v.proxy.config x.records) (take rec.row x.records) rec)
after v x rec rest new finished is has = true_in_step (history_verdicts v.proxy.config x.records) x.records v.proxy new rec rest x.replies finished (before v x rec rest is) is.begun (replied v x rec rest is) has

-- its journal is that of all records of the replies
journal_after : (v : LockedProxyView) (x : ReadyView) (rec : Record) (rest : List Record) (new : ProxyView) (finished : Finished) → IsNext v x rec rest → HasFinished v.proxy new x.replies finished → new.journal ≡ journal v.proxy.config (history_verdicts v.proxy.config x.records) x.records
journal_after v x rec rest new finished is has =
    let done = after v x rec rest new finished is has in
    let here = in_ready v x rec rest is in
    let last = is.ready.last in
    let row = is.row in
    let whole : take (suc rec.row) x.records ≡ x.records = take_all x.records (suc rec.row) (omega (arith, last, row)) in
    let version : new.version ≡ last_version (take (suc rec.row) x.records) = done.0.at ∙ sym (last_version_at x.records rec.row rec here) in
    done.0.journal_is
    ∙ ap (λ (version : ℕ). journal_up_to v.proxy.config (history_verdicts v.proxy.config x.records) x.records version) version
    ∙ ap (journal v.proxy.config (history_verdicts v.proxy.config x.records)) (up_to_front_are v.proxy.config x.records (suc rec.row) is.keeps.config_is.step.0 is.ready.history (omega (arith, last, row)) ∙ whole)

rows_after : (v : LockedProxyView) (x : ReadyView) (rec : Record) (rest : List Record) (new : ProxyView) (finished : Finished) → IsNext v x rec rest → HasFinished v.proxy new x.replies finished → length new.journal ≡ suc rec.row
rows_after v x rec rest new finished is has =
    let count : length new.journal ≡ length x.records = ap (λ (rows : List JournalRow). length rows) (journal_after v x rec rest new finished is has) ∙ journal_counted v.proxy.config (history_verdicts v.proxy.config x.records) x.records in
    let last = is.ready.last in
    let row = is.row in
    omega (arith, count, last, row)

finished_keeps_at : (v : LockedProxyView) (x : ReadyView) (rec : Record) (rest : List Record) (new : ProxyView) (finished : Finished) → IsNext v x rec rest → HasFinished v.proxy new x.replies finished → IsLockedProxy v.proxy.config (record { proxy = new; records = v.records; columns = x.columns })
finished_keeps_at v x rec rest new finished is has =
    record {
      config_is = is.keeps.config_is;
      config_of = ap (λ (u : ProxyView). u.config) has.after;
      number = subst (λ (u : ProxyView). u.number < c.proxies) (sym has.after) is.keeps.number;
      agreed = agreed;
      verdicts = verdicts;
      journal_is = known_by_history c v.records x.columns (length new.journal) new.journal is.keeps.agreed.history verdicts (journal_after v x rec rest new finished is has ∙ ap (λ (rs : List Record). journal c (history_verdicts c rs) rs) (sym first));
      version = done.0.at ∙ (versions_at c x.records rec.row rec is.ready.history here).1 ∙ ap (λ (n : ℕ). n * c.step) (sym count);
      own_version =
          done.0.at
          ∙ sym (own_last v.records new.number rec.row rec (in_lock v x rec rest is) mine)
          ∙ ap (λ (n : ℕ). last_version (records_of_proxy new.number (take n v.records))) (sym count);
      own = λ place s at. is.keeps.own (suc place) s (ap (λ (rs : List Record). slice_get rs (suc place)) is.begun ∙ ap (λ (rs : List Record). slice_get rs place) (sym done.0.begun) ∙ at) ∙ ap (λ (u : ProxyView). u.number) (sym has.after);
      begun = λ place s at. is.keeps.begun (suc place) s (ap (λ (rs : List Record). slice_get rs (suc place)) is.begun ∙ ap (λ (rs : List Record). slice_get rs place) (sym done.0.begun) ∙ at);
      follow =
          subst (λ (rs : List Record). FollowOneAnother new.version new.last_begun rs) (sym done.0.begun)
          (subst (λ (version : ℕ). FollowOneAnother version new.last_begun rest) (sym done.0.at)
          (subst (λ (last : ℕ). FollowOneAnother rec.version last rest) (sym (ap (λ (u : ProxyView). u.last_begun) has.after)) (subst (FollowOneAnother v.proxy.version v.proxy.last_begun) is.begun is.keeps.follow).1));
      last_begun = ap (λ (u : ProxyView). u.last_begun) has.after ∙ is.keeps.last_begun;
      moves = subst (λ (u : ProxyView). HoldsMoves u (last_moves v.records)) (sym has.after) (record { stands = is.keeps.moves.stands; count = is.keeps.moves.count });
    }
  where
    c : Config
    c = v.proxy.config

    here : slice_get x.records rec.row ≡ Some rec
    here = in_ready v x rec rest is

    mine : rec.proxy ≡ new.number
    mine = is.keeps.own 0 rec (ap (λ (rs : List Record). slice_get rs 0) is.begun) ∙ ap (λ (u : ProxyView). u.number) (sym has.after)

    done : IsAfter (history_verdicts c x.records) x.records v.proxy new rec rest × (finished ≡ finished_batch c (history_verdicts c x.records) (take rec.row x.records) rec)
    done = after v x rec rest new finished is has

    count : length new.journal ≡ suc rec.row
    count = rows_after v x rec rest new finished is has

    first : take (length new.journal) v.records ≡ x.records
    first = ap (λ (n : ℕ). take n v.records) count ∙ all_of_ready v x rec rest is

    agreed : IsAgreed c v.records x.columns (length new.journal)
    agreed =
        record {
          history = is.keeps.agreed.history;
          rows = let within = slice_get_within v.records rec.row rec (in_lock v x rec rest is) in omega (arith, count, within);
          cells = λ r there. let cells = is.ready.cells r there in let last = is.ready.last in let row = is.row in omega (arith, count, cells, last, row);
        }

    verdicts : AreVerdicts c (take (length new.journal) v.records) x.columns
    verdicts = subst (λ (rs : List Record). AreVerdicts c rs x.columns) (sym first) is.ready.verdicts

pub finished_keeps : (config : Config) (v : LockedProxyView) (x : ReadyView) (rec : Record) (rest : List Record) (new : ProxyView) (finished : Finished) → v.proxy.config ≡ config → IsNext v x rec rest → HasFinished v.proxy new x.replies finished → IsLockedProxy config (record { proxy = new; records = v.records; columns = x.columns })
finished_keeps config v x rec rest new finished same is has = subst (λ (c : Config). IsLockedProxy c (record { proxy = new; records = v.records; columns = x.columns })) same (finished_keeps_at v x rec rest new finished is has)

-- ---- the answer

row_of : (v : LockedProxyView) (x : ReadyView) (rec : Record) (rest : List Record) (new : ProxyView) (finished : Finished) → IsNext v x rec rest → HasFinished v.proxy new x.replies finished → finished.row ≡ rec.row
row_of v x rec rest new finished is has =
    ap (λ (f : Finished). f.row) (after v x rec rest new finished is has).1
    ∙ finished_row v.proxy.config (history_verdicts v.proxy.config x.records) (journal v.proxy.config (history_verdicts v.proxy.config x.records) (take rec.row x.records)) rec

version_of : (v : LockedProxyView) (x : ReadyView) (rec : Record) (rest : List Record) (new : ProxyView) (finished : Finished) → IsNext v x rec rest → HasFinished v.proxy new x.replies finished → new.version ≡ finished.version
version_of v x rec rest new finished is has =
    let done = after v x rec rest new finished is has in
    done.0.at
    ∙ sym (ap (λ (f : Finished). f.version) done.1
    ∙ finished_version_is v.proxy.config (history_verdicts v.proxy.config x.records) (journal v.proxy.config (history_verdicts v.proxy.config x.records) (take rec.row x.records)) rec)

noted_at : (v : LockedProxyView) (x : ReadyView) (rec : Record) (rest : List Record) (new : ProxyView) (finished : Finished) → IsNext v x rec rest → HasFinished v.proxy new x.replies finished → IsNotedFinished v.proxy.config (record { finished = finished; records = x.records; columns = x.columns })
noted_at v x rec rest new finished is has =
    let row : finished.row ≡ rec.row = row_of v x rec rest new finished is has in
    let last = is.ready.last in
    let own = is.row in
    record {
      rec = rec;
      history = is.ready.history;
      last = omega (arith, row, last, own);
      there = ap (slice_get x.records) row ∙ in_ready v x rec rest is;
      cells = is.ready.cells;
      verdicts = is.ready.verdicts;
      finished_is = (after v x rec rest new finished is has).1 ∙ ap (λ (k : ℕ). finished_batch v.proxy.config (history_verdicts v.proxy.config x.records) (take k x.records) rec) (sym row);
    }

pub is_noted : (config : Config) (v : LockedProxyView) (x : ReadyView) (rec : Record) (rest : List Record) (new : ProxyView) (finished : Finished) → v.proxy.config ≡ config → IsNext v x rec rest → HasFinished v.proxy new x.replies finished → IsNotedFinished config (record { finished = finished; records = x.records; columns = x.columns })
is_noted config v x rec rest new finished same is has = subst (λ (c : Config). IsNotedFinished c (record { finished = finished; records = x.records; columns = x.columns })) same (noted_at v x rec rest new finished is has)

pub finishes_ready : (v : LockedProxyView) (x : ReadyView) (rec : Record) (rest : List Record) (new : ProxyView) (finished : Finished) → IsNext v x rec rest → HasFinished v.proxy new x.replies finished
    → FinishesReady v x (record { proxy = new; records = v.records; columns = x.columns }) (record { finished = finished; records = x.records; columns = x.columns })
finishes_ready v x rec rest new finished is has =
    record {
      in_turn = ap first_row is.begun ∙ ap (λ (k : ℕ). Some k) is.row;
      finishes = has;
      row = row;
      shown =
          record {
            own = λ s at. ap (λ (r : Record). r.proxy) (same s is.ready.rec (ap (slice_get x.records) (sym row) ∙ at) is.ready.there ∙ same_record v x rec rest is) ∙ is.keeps.own 0 rec (ap (λ (rs : List Record). slice_get rs 0) is.begun) ∙ ap (λ (u : ProxyView). u.number) (sym has.after);
            version = version_of v x rec rest new finished is has;
            records = ap (λ (k : ℕ). take k v.records) (next (row_of v x rec rest new finished is has)) ∙ all_of_ready v x rec rest is;
            columns = refl;
          };
      records = refl;
      columns = refl;
      noted_records = refl;
      noted_columns = refl;
    }
  where
    next : finished.row ≡ rec.row → finished.row + 1 ≡ suc rec.row
    next same = omega (arith, same)

    row : finished.row ≡ x.row
    row = row_of v x rec rest new finished is has ∙ is.row

    same : (a b : Record) → slice_get x.records x.row ≡ Some a → slice_get x.records x.row ≡ Some b → a ≡ b
    same a b at_a at_b = cc

-- ---- refusals

not_some : (row : ℕ) → None ≡ Some row → ⊥
not_some row same = cc

some_row : (a b : ℕ) → Some a ≡ Some b → a ≡ b
some_row a b same = cc

pub none_awaited : (v : LockedProxyView) (x : ReadyView) → v.proxy.begun ≡ [] → IsFinishRefusal v x (refusals.OutOfTurn None)
none_awaited v x none = (ap first_row (sym none), not_some x.row)

pub other_awaited : (v : LockedProxyView) (x : ReadyView) (rec : Record) (rest : List Record) (row other : ℕ) → v.proxy.begun ≡ rec ∷ rest → row ≡ rec.row → other ≡ x.row → (row ≡ other → ⊥) → IsFinishRefusal v x (refusals.OutOfTurn (Some row))
other_awaited v x rec rest row other begun row_is other_is apart = (ap (λ (k : ℕ). Some k) row_is ∙ ap first_row (sym begun), λ same. apart (some_row row x.row same ∙ sym other_is))

pub awaited_fails : (v : LockedProxyView) (x : ReadyView) (rec : Record) (rest : List Record) → v.proxy.begun ≡ rec ∷ rest → rec.row ≡ x.row → IsFinishRefusal v x refusals.OutOfMemory
awaited_fails v x rec rest begun row = ap first_row begun ∙ ap (λ (k : ℕ). Some k) row
