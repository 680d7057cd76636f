-- Journals and outcomes where sayings are alike: by a longer history, and by verdict cells.
use Rattle.std.proofs.Common.{◌≡◌, refl, sym, ap, ◌∙◌, subst, ℕ, zero, suc, ◌+◌, ◌<◌, ◌≤◌, List, [], ◌∷◌, ◌++◌, map, length, take, drop, arith}
use Rattle.std.proofs.lemmas.List.{map-append, take-append-drop, take-append-le}
use Rattle.std.proofs.lemmas.List.Elements.{filter-append}
use Rattle.std.proofs.lemmas.List.Sums.{fold-append}
use Rattle.std.proofs.lemmas.Option.{slice_get_within}
use Rattle.std.proofs.lemmas.Bool.{eqb-true}
use Rattle.std.specs.Prelude.{Bool, true, false, ◌&&◌, not, if◌then◌else◌, slice_get, Option, Some, None, filter, cond, fold, nat_eq}
use Rattle.model.specs.Configs.{Config}
use Rattle.model.specs.declared.part.Part.{Part}
use Rattle.model.specs.declared.verdict.Verdict.{Verdict}
use Rattle.model.specs.declared.verdict.Verdict.TheVariants.{Committed}
use Rattle.model.specs.declared.journal.JournalRow.{JournalRow}
use Rattle.model.specs.declared.unseen.UnseenRow.{UnseenRow}
use Rattle.model.specs.declared.reply.Reply.{Reply}
use Rattle.model.specs.Transactions.{StampedTransaction, is_state_transaction}
use Rattle.model.specs.Records.{Record, Follows, IsHistory}
use Rattle.model.specs.Shares.{share, asks, each_below}
use Rattle.model.specs.Verdicts.{joined, share_verdicts}
use Rattle.model.specs.Metadata.{is_locked, after_journal_row, metadata}
use Rattle.model.specs.Journal.{VerdictSource, AgreeOn, history_verdicts, history_verdict_in_row, history_verdict_in_record, verdict_or_conflict, list_at, cell_verdicts, cell_verdict_in_row, journal_row, journal, CellCommits, carried_to, reply_states_from, reply_row, is_after, unseen}
use Rattle.model.specs.Outcomes.{joined_verdict, outcome_of_verdict, outcome, outcomes_from, outcomes_after, outcomes}
use Rattle.model.specs.World.{reply_of, tagged_all, finished_after, finished_batch}
use Rattle.model.specs.Agreed.{Columns, AreVerdicts}
use Rattle.model.proofs.Verdicts.Places.{row_at, slice_get-take, slice_get-take_back, take-take_le}
use Rattle.model.proofs.Shares.Askers.{share_part, known_in_is, slice_get-append_left, verdict_in_later, journal_row_alike}

-- ---- the journal of more and of fewer records

pub journal_append : (config : Config) (verdict_by : VerdictSource) (h later : List Record) → journal config verdict_by (h ++ later) ≡ journal config verdict_by h ++ journal config verdict_by later
unfolding journal
journal_append config verdict_by h later = map-append (journal_row config verdict_by) h later

pub journal_push : (config : Config) (verdict_by : VerdictSource) (h : List Record) (rec : Record) → journal config verdict_by (h ++ rec ∷ []) ≡ journal config verdict_by h ++ journal_row config verdict_by rec ∷ []
unfolding journal
journal_push config verdict_by h rec = map-append (journal_row config verdict_by) h (rec ∷ [])

pub journal_take : (config : Config) (verdict_by : VerdictSource) (h : List Record) (n : ℕ) → take n (journal config verdict_by h) ≡ journal config verdict_by (take n h)
unfolding journal
journal_take config verdict_by h zero = refl
journal_take config verdict_by [] (suc n) = refl
journal_take config verdict_by (rec ∷ h) (suc n) = ap (λ (rows : List JournalRow). journal_row config verdict_by rec ∷ rows) (journal_take config verdict_by h n)

-- ---- sayings that are alike

-- two sayings are alike on each record of a list
abbrev pub AllAlike : Config → VerdictSource → VerdictSource → List Record → Type 0
AllAlike config verdict_by told h = (i : ℕ) (rec : Record) → slice_get h i ≡ Some rec → AgreeOn config verdict_by told rec

pub journal_alike : (config : Config) (verdict_by told : VerdictSource) (h : List Record) → AllAlike config verdict_by told h → journal config verdict_by h ≡ journal config told h
unfolding journal
journal_alike config verdict_by told [] alike = refl
journal_alike config verdict_by told (rec ∷ rest) alike =
    rw (journal_row_alike config verdict_by told rec (alike 0 rec refl), journal_alike config verdict_by told rest (λ i s at. alike (suc i) s at))

-- the same by each number that passes a test
map_asked : {X : Type 0} (f g : ℕ → X) (test : ℕ → Bool) (n : ℕ) → ((r : ℕ) → r < n → test r ≡ true → f r ≡ g r) → map f (filter test (each_below n)) ≡ map g (filter test (each_below n))
map_asked f g test zero same = refl
map_asked f g test (suc n) same =
    rw (filter-append, map-append, map-append, map_asked f g test n (λ r within passes. same r (omega arith) passes)) (ap (λ vs. map g (filter test (each_below n)) ++ vs) (go (test n) refl))
  where
    go : (b : Bool) → test n ≡ b → map f (cond b (n ∷ []) []) ≡ map g (cond b (n ∷ []) [])
    go true passes = ap (λ v. v ∷ []) (same n (omega arith) passes)
    go false fails = refl

outcome_alike : (config : Config) (verdict_by told : VerdictSource) (locked : Bool) (rec : Record) (n : ℕ) (t : StampedTransaction) → AgreeOn config verdict_by told rec → slice_get rec.batch n ≡ Some t → outcome config verdict_by locked rec n t ≡ outcome config told locked rec n t
unfolding outcome joined_verdict
outcome_alike config verdict_by told locked rec n t alike at =
    ap (λ (vs : List Verdict). outcome_of_verdict (joined vs) (not t.lock_aware && locked) rec.version n)
    (map_asked (λ (r : ℕ). verdict_by r rec.row n) (λ (r : ℕ). told r rec.row n) (λ r. asks config rec r t) config.resolvers (λ r within asking. alike.same r n t within at asking))

pub outcomes_from_alike : (config : Config) (verdict_by told : VerdictSource) (locked : Bool) (rec : Record) (n : ℕ) (ts : List StampedTransaction) → AgreeOn config verdict_by told rec → ((k : ℕ) (t : StampedTransaction) → slice_get ts k ≡ Some t → slice_get rec.batch (n + k) ≡ Some t) → outcomes_from config verdict_by locked rec n ts ≡ outcomes_from config told locked rec n ts
outcomes_from_alike config verdict_by told locked rec n [] alike at = refl
outcomes_from_alike config verdict_by told locked rec n (t ∷ ts) alike at =
    rw (outcome_alike config verdict_by told locked rec n t alike here, outcomes_from_alike config verdict_by told locked rec (suc n) ts alike later)
  where
    here : slice_get rec.batch n ≡ Some t
    here = let same : n + 0 ≡ n = omega arith in rw same at (at 0 t refl)

    later : (k : ℕ) (u : StampedTransaction) → slice_get ts k ≡ Some u → slice_get rec.batch (suc n + k) ≡ Some u
    later k u there = let same : suc n + k ≡ n + suc k = omega arith in rw same (at (suc k) u there)

pub outcomes_alike : (config : Config) (verdict_by told : VerdictSource) (before : List Record) (rec : Record) → AllAlike config verdict_by told before → AgreeOn config verdict_by told rec → outcomes config verdict_by before rec ≡ outcomes config told before rec
unfolding outcomes_after
outcomes_alike config verdict_by told before rec all alike =
    rw (journal_alike config verdict_by told before all) (outcomes_from_alike config verdict_by told (is_locked (metadata (journal config told before))) rec 0 rec.batch alike (λ k t there. let same : 0 + k ≡ k = omega arith in rw same there))

-- each transaction of a batch has its outcome at its number
outcomes_from_at : (config : Config) (verdict_by : VerdictSource) (locked : Bool) (rec : Record) (m : ℕ) (ts : List StampedTransaction) (k n : ℕ) (t : StampedTransaction) → n ≡ m + k → slice_get ts k ≡ Some t → slice_get (outcomes_from config verdict_by locked rec m ts) k ≡ Some (outcome config verdict_by locked rec n t)
outcomes_from_at config verdict_by locked rec m [] k n t number at = absurd (cc)
outcomes_from_at config verdict_by locked rec m (u ∷ ts) zero n t number at =
    let same : u ≡ t = cc in
    let here : m ≡ n = omega arith in
    rw (same, here)
outcomes_from_at config verdict_by locked rec m (u ∷ ts) (suc k) n t number at = outcomes_from_at config verdict_by locked rec (suc m) ts k n t (omega arith) at

pub outcomes_after_at : (config : Config) (verdict_by : VerdictSource) (journal_before : List JournalRow) (rec : Record) (n : ℕ) (t : StampedTransaction) → slice_get rec.batch n ≡ Some t → slice_get (outcomes_after config verdict_by journal_before rec) n ≡ Some (outcome config verdict_by (is_locked (metadata journal_before)) rec n t)
unfolding outcomes_after
outcomes_after_at config verdict_by journal_before rec n t at = outcomes_from_at config verdict_by (is_locked (metadata journal_before)) rec 0 rec.batch n n t (omega arith) at

pub outcomes_at : (config : Config) (verdict_by : VerdictSource) (before : List Record) (rec : Record) (n : ℕ) (t : StampedTransaction) → slice_get rec.batch n ≡ Some t → slice_get (outcomes config verdict_by before rec) n ≡ Some (outcome config verdict_by (is_locked (metadata (journal config verdict_by before))) rec n t)
outcomes_at config verdict_by before rec n t at = outcomes_after_at config verdict_by (journal config verdict_by before) rec n t at

-- a finished batch is the same by sayings that are alike
pub finished_alike : (config : Config) (verdict_by told : VerdictSource) (before : List Record) (rec : Record) → AllAlike config verdict_by told before → AgreeOn config verdict_by told rec → finished_batch config verdict_by before rec ≡ finished_batch config told before rec
unfolding finished_after
finished_alike config verdict_by told before rec all alike =
    let earlier : journal config verdict_by before ≡ journal config told before = journal_alike config verdict_by told before all in
    let own : journal_row config verdict_by rec ≡ journal_row config told rec = journal_row_alike config verdict_by told rec alike in
    let answers : outcomes config verdict_by before rec ≡ outcomes config told before rec = outcomes_alike config verdict_by told before rec all alike in
    λ i. record { row = rec.row; version = rec.version; outcomes = answers i; tagged = tagged_all (metadata (earlier i ++ own i ∷ [])) rec.batch (answers i) }

-- ---- beginnings of a history

pub history_take : (config : Config) (h : List Record) (n : ℕ) → IsHistory config h → IsHistory config (take n h)
history_take config h n history i rec at =
    let there = slice_get-take h n i rec at in
    subst (λ (before : List Record). Follows config before rec) (sym (take-take_le h i n (omega (arith, there.0)))) (history i rec there.1)

-- ---- longer histories

later_alike : (config : Config) (h later : List Record) → IsHistory config h → AllAlike config (history_verdicts config (h ++ later)) (history_verdicts config h) h
later_alike config h later history i rec at =
    let within = slice_get_within h i rec at in
    let row = row_at config h i rec history at in
    record { same = λ r n t resolver there asking. verdict_in_later config h later r rec.row n (omega arith) }

pub journal_later : (config : Config) (h later : List Record) → IsHistory config h → journal config (history_verdicts config (h ++ later)) (h ++ later) ≡ journal config (history_verdicts config h) h ++ journal config (history_verdicts config (h ++ later)) later
unfolding journal
journal_later config h later history = map-append (journal_row config (history_verdicts config (h ++ later))) h later ∙ ap (λ (rows : List JournalRow). rows ++ journal config (history_verdicts config (h ++ later)) later) (journal_alike config (history_verdicts config (h ++ later)) (history_verdicts config h) h (later_alike config h later history))

pub metadata_later : (config : Config) (h later : List Record) → IsHistory config h → metadata (journal config (history_verdicts config (h ++ later)) (h ++ later)) ≡ fold after_journal_row (metadata (journal config (history_verdicts config h) h)) (journal config (history_verdicts config (h ++ later)) later)
unfolding metadata
metadata_later config h later history = rw (journal_later config h later history) (fold-append after_journal_row [] (journal config (history_verdicts config h) h) (journal config (history_verdicts config (h ++ later)) later))

pub outcomes_later : (config : Config) (h later : List Record) (i : ℕ) (rec : Record) → IsHistory config h → slice_get h i ≡ Some rec → outcomes config (history_verdicts config (h ++ later)) (take i h) rec ≡ outcomes config (history_verdicts config h) (take i h) rec
outcomes_later config h later i rec history at =
    outcomes_alike config (history_verdicts config (h ++ later)) (history_verdicts config h) (take i h) rec (λ j s there. later_alike config h later history j s (slice_get-take h i j s there).1) (later_alike config h later history i rec at)

pub finished_later : (config : Config) (h later : List Record) (i : ℕ) (rec : Record) → IsHistory config h → slice_get h i ≡ Some rec → finished_batch config (history_verdicts config (h ++ later)) (take i (h ++ later)) rec ≡ finished_batch config (history_verdicts config h) (take i h) rec
finished_later config h later i rec history at =
    let within = slice_get_within h i rec at in
    ap (λ (before : List Record). finished_batch config (history_verdicts config (h ++ later)) before rec) (take-append-le i h later (omega arith))
    ∙ finished_alike config (history_verdicts config (h ++ later)) (history_verdicts config h) (take i h) rec (λ j s there. later_alike config h later history j s (slice_get-take h i j s there).1) (later_alike config h later history i rec at)

-- ---- verdict cells

known_in_later : (config : Config) (h later : List Record) (columns : Columns) (r i n : ℕ) → i < length h → cell_verdicts config (h ++ later) columns r i n ≡ cell_verdicts config h columns r i n
unfolding cell_verdicts
known_in_later config h later columns r i n within = rw (slice_get-append_left h later i within)

-- where the cells of the first n rows hold the verdicts, they say what the history of these rows says
cells_alike : (config : Config) (h : List Record) (columns : Columns) (n : ℕ) → IsHistory config h → AreVerdicts config (take n h) columns → AllAlike config (cell_verdicts config h columns) (history_verdicts config (take n h)) (take n h)
cells_alike config h columns n history cells i rec at =
    let within = slice_get_within (take n h) i rec at in
    let row = row_at config (take n h) i rec (history_take config h n history) at in
    let there : slice_get (take n h) rec.row ≡ Some rec = subst (λ (k : ℕ). slice_get (take n h) k ≡ Some rec) (sym row) at in
    let below : rec.row < length (take n h) = omega arith in
    record {
      same = λ r m t resolver inside asking.
          subst (λ (whole : List Record). cell_verdicts config whole columns r rec.row m ≡ cell_verdicts config (take n h) columns r rec.row m) (take-append-drop n h) (known_in_later config (take n h) (drop n h) columns r rec.row m below)
          ∙ known_in_is config (take n h) columns r rec.row m rec t there inside asking (cells r resolver rec.row rec there);
    }

pub journal_known : (config : Config) (h : List Record) (columns : Columns) (n : ℕ) → IsHistory config h → AreVerdicts config (take n h) columns → journal config (cell_verdicts config h columns) (take n h) ≡ journal config (history_verdicts config (take n h)) (take n h)
journal_known config h columns n history cells = journal_alike config (cell_verdicts config h columns) (history_verdicts config (take n h)) (take n h) (cells_alike config h columns n history cells)

-- the same of the records before one of them
cells_alike_before : (config : Config) (h : List Record) (columns : Columns) (n i : ℕ) → i < n → IsHistory config h → AreVerdicts config (take n h) columns → AllAlike config (cell_verdicts config h columns) (history_verdicts config (take n h)) (take i h)
cells_alike_before config h columns n i below history cells j s there =
    let both = slice_get-take h i j s there in
    cells_alike config h columns n history cells j s (slice_get-take_back h n j s (omega (arith, below, both.0)) both.1)

pub outcomes_known : (config : Config) (h : List Record) (columns : Columns) (n i : ℕ) (rec : Record) → IsHistory config h → AreVerdicts config (take n h) columns → slice_get (take n h) i ≡ Some rec → outcomes config (cell_verdicts config h columns) (take i h) rec ≡ outcomes config (history_verdicts config (take n h)) (take i h) rec
outcomes_known config h columns n i rec history cells at =
    outcomes_alike config (cell_verdicts config h columns) (history_verdicts config (take n h)) (take i h) rec (cells_alike_before config h columns n i (slice_get-take h n i rec at).0 history cells) (cells_alike config h columns n history cells i rec at)

pub finished_known : (config : Config) (h : List Record) (columns : Columns) (n i : ℕ) (rec : Record) → IsHistory config h → AreVerdicts config (take n h) columns → slice_get (take n h) i ≡ Some rec → finished_batch config (cell_verdicts config h columns) (take i h) rec ≡ finished_batch config (history_verdicts config (take n h)) (take i h) rec
finished_known config h columns n i rec history cells at =
    finished_alike config (cell_verdicts config h columns) (history_verdicts config (take n h)) (take i h) rec (cells_alike_before config h columns n i (slice_get-take h n i rec at).0 history cells) (cells_alike config h columns n history cells i rec at)

-- ---- what nobody said

-- a part of a number, and the verdict Committed at its place
record SaidAt (parts : List Part) (verdicts : List Verdict) (n : ℕ) : Type 0 where
  place : ℕ
  part : Part
  part_there : slice_get parts place ≡ Some part
  number : part.number ≡ n
  committed : slice_get verdicts place ≡ Some Committed

said_at : (parts : List Part) (verdicts : List Verdict) (n : ℕ) → verdict_or_conflict parts verdicts n ≡ Committed → SaidAt parts verdicts n
said_at [] verdicts n said = absurd (cc)
said_at (part ∷ parts) [] n said = absurd (cc)
said_at (part ∷ parts) (verdict ∷ verdicts) n said = by (nat_eq part.number n) refl said (λ there. later (said_at parts verdicts n there))
  where
    later : SaidAt parts verdicts n → SaidAt (part ∷ parts) (verdict ∷ verdicts) n
    later found = record { place = suc found.place; part = found.part; part_there = found.part_there; number = found.number; committed = found.committed }

    by : (b : Bool) → nat_eq part.number n ≡ b → (if b then verdict else verdict_or_conflict parts verdicts n) ≡ Committed → (verdict_or_conflict parts verdicts n ≡ Committed → SaidAt (part ∷ parts) (verdict ∷ verdicts) n) → SaidAt (part ∷ parts) (verdict ∷ verdicts) n
    by true same here rest = record { place = 0; part = part; part_there = refl; number = eqb-true part.number n same; committed = ap (λ (v : Verdict). Some v) here }
    by false other there rest = rest there

-- what the cells say is Committed only where a cell says so
pub said_by_cell : (config : Config) (h : List Record) (columns : Columns) (r i n : ℕ) → cell_verdicts config h columns r i n ≡ Committed → (rec : Record) × (slice_get h i ≡ Some rec) × CellCommits config rec r n (list_at (list_at columns r) i)
unfolding cell_verdicts
said_by_cell config h columns r i n said = by (slice_get h i) refl said
  where
    by : (found : Option Record) → slice_get h i ≡ found → cell_verdict_in_row config (list_at (list_at columns r) i) r n found ≡ Committed → (rec : Record) × (slice_get h i ≡ Some rec) × CellCommits config rec r n (list_at (list_at columns r) i)
    by None at none = absurd (cc)
    by (Some rec) at there =
        let found = said_at (share config rec r) (list_at (list_at columns r) i) n there in
        let (t, among, asking, _) = share_part config rec r found.place found.part found.part_there in (
          rec,
          at,
          record {
            transaction = t;
            there = subst (λ (k : ℕ). slice_get rec.batch k ≡ Some t) found.number among;
            asking = asking;
            place = found.place;
            part = found.part;
            part_there = found.part_there;
            number = found.number;
            committed = found.committed;
          },
        )

-- what a history says is Committed only where the transaction is there
pub said_of_one : (config : Config) (h : List Record) (r i n : ℕ) → history_verdicts config h r i n ≡ Committed → (rec : Record) × (t : StampedTransaction) × (slice_get h i ≡ Some rec) × (slice_get rec.batch n ≡ Some t)
unfolding history_verdicts
said_of_one config h r i n said = by (slice_get h i) refl said
  where
    among : (rec : Record) → slice_get h i ≡ Some rec → (found : Option StampedTransaction) → slice_get rec.batch n ≡ found → history_verdict_in_record config r (take i h) rec n found ≡ Committed → (rec : Record) × (t : StampedTransaction) × (slice_get h i ≡ Some rec) × (slice_get rec.batch n ≡ Some t)
    among rec at None none said = absurd (cc)
    among rec at (Some t) there said = (rec, t, at, there)

    by : (found : Option Record) → slice_get h i ≡ found → history_verdict_in_row config h r i n found ≡ Committed → (rec : Record) × (t : StampedTransaction) × (slice_get h i ≡ Some rec) × (slice_get rec.batch n ≡ Some t)
    by None none said = absurd (cc)
    by (Some rec) at said = among rec at (slice_get rec.batch n) refl said

-- ---- two holders

-- what a holder knows of a row hangs on its record and its cells alone
pub known_alike : (config : Config) (h g : List Record) (mine theirs : Columns) (i : ℕ) (rec : Record) → rec.row ≡ i → slice_get h i ≡ Some rec → slice_get g i ≡ Some rec
    → ((r : ℕ) → r < config.resolvers → list_at (list_at mine r) i ≡ list_at (list_at theirs r) i) → AgreeOn config (cell_verdicts config h mine) (cell_verdicts config g theirs) rec
unfolding cell_verdicts
known_alike config h g mine theirs i rec row in_h in_g cells =
    record {
      same = λ r n t resolver there asking.
          let cell = cells r resolver in
          subst (λ (k : ℕ). cell_verdicts config h mine r k n ≡ cell_verdicts config g theirs r k n) (sym row) (rw (in_h, in_g, cell));
    }

pub journals_meet : (config : Config) (h g : List Record) (mine theirs : Columns) (m n : ℕ) → IsHistory config h → m ≤ n → take m h ≡ take m g
    → ((r i : ℕ) → r < config.resolvers → i < m → list_at (list_at mine r) i ≡ list_at (list_at theirs r) i)
    → take m (journal config (cell_verdicts config h mine) (take n h)) ≡ journal config (cell_verdicts config g theirs) (take m g)
journals_meet config h g mine theirs m n history fewer same cells =
    journal_take config (cell_verdicts config h mine) (take n h) m ∙ ap (journal config (cell_verdicts config h mine)) (take-take_le h m n fewer ∙ same) ∙ journal_alike config (cell_verdicts config h mine) (cell_verdicts config g theirs) (take m g) alike
  where
    alike : AllAlike config (cell_verdicts config h mine) (cell_verdicts config g theirs) (take m g)
    alike i rec at =
        let in_g = slice_get-take g m i rec at in
        let in_h = slice_get-take h m i rec (ap (λ (rs : List Record). slice_get rs i) same ∙ at) in
        known_alike config h g mine theirs i rec (row_at config h i rec history in_h.1) in_h.1 in_g.1 (λ r resolver. cells r i resolver in_g.0)

-- ---- replies

told_from_alike : (verdict_by other : VerdictSource) (r : ℕ) (rec : Record) (n : ℕ) (ts : List StampedTransaction) → ((k : ℕ) → verdict_by r rec.row k ≡ other r rec.row k) → reply_states_from verdict_by r rec n ts ≡ reply_states_from other r rec n ts
told_from_alike verdict_by other r rec n [] same = refl
told_from_alike verdict_by other r rec n (t ∷ ts) same = by (is_state_transaction t) (told_from_alike verdict_by other r rec (suc n) ts same)
  where
    by : (b : Bool) → reply_states_from verdict_by r rec (suc n) ts ≡ reply_states_from other r rec (suc n) ts
        → (if b then (record { verdict = verdict_by r rec.row n; carried = carried_to r t }) ∷ reply_states_from verdict_by r rec (suc n) ts else reply_states_from verdict_by r rec (suc n) ts) ≡ (if b then (record { verdict = other r rec.row n; carried = carried_to r t }) ∷ reply_states_from other r rec (suc n) ts else reply_states_from other r rec (suc n) ts)
    by true rest = λ i. (record { verdict = same n i; carried = carried_to r t }) ∷ rest i
    by false rest = rest

told_row_alike : (verdict_by other : VerdictSource) (r : ℕ) (rec : Record) → ((k : ℕ) → verdict_by r rec.row k ≡ other r rec.row k) → reply_row verdict_by r rec ≡ reply_row other r rec
unfolding reply_row
told_row_alike verdict_by other r rec same = λ i. record { version = rec.version; states = told_from_alike verdict_by other r rec 0 rec.batch same i }

pub map_passing : {X Y : Type 0} (f g : X → Y) (test : X → Bool) (xs : List X) → ((k : ℕ) (x : X) → slice_get xs k ≡ Some x → f x ≡ g x) → map f (filter test xs) ≡ map g (filter test xs)
map_passing f g test [] same = refl
map_passing {X} {Y} f g test (x ∷ xs) same = by (test x) (map_passing f g test xs (λ k y at. same (suc k) y at))
  where
    by : (b : Bool) → map f (filter test xs) ≡ map g (filter test xs) → map f (cond b (x ∷ filter test xs) (filter test xs)) ≡ map g (cond b (x ∷ filter test xs) (filter test xs))
    by true rest = λ i. same 0 x refl i ∷ rest i
    by false rest = rest

unseen_later : (config : Config) (h later : List Record) (r i : ℕ) (rec : Record) → IsHistory config h → unseen (history_verdicts config (h ++ later)) r (take i h) rec ≡ unseen (history_verdicts config h) r (take i h) rec
unfolding unseen
unseen_later config h later r i rec history =
    map_passing (reply_row (history_verdicts config (h ++ later)) r) (reply_row (history_verdicts config h) r) (is_after rec.own_previous) (take i h)
    (λ k s at.
    let there = (slice_get-take h i k s at).1 in
    let within = slice_get_within h k s there in
    let row = row_at config h k s history there in
    told_row_alike (history_verdicts config (h ++ later)) (history_verdicts config h) r s (λ n. verdict_in_later config h later r s.row n (omega arith)))

pub replies_later : (config : Config) (h later : List Record) (r i : ℕ) (rec : Record) → IsHistory config h → slice_get h i ≡ Some rec → reply_of config (history_verdicts config (h ++ later)) r (take i (h ++ later)) rec ≡ reply_of config (history_verdicts config h) r (take i h) rec
replies_later config h later r i rec history at =
    let within = slice_get_within h i rec at in
    ap (λ (before : List Record). reply_of config (history_verdicts config (h ++ later)) r before rec) (take-append-le i h later (omega arith))
    ∙ ap (λ (rows : List UnseenRow). reply_by config r (take i h) rec rows) (unseen_later config h later r i rec history)
  where
    -- the reply with other rows
    reply_by : Config → ℕ → List Record → Record → List UnseenRow → Reply
    reply_by config r before rec rows = record { resolver = r; proxy = rec.proxy; row = rec.row; version = rec.version; verdicts = share_verdicts config r before rec; unseen = rows }
