-- Runs of events, one after another; what each event does to the journal of a proxy; and answers by the final history.
use Rattle.std.proofs.Common.{◌≡◌, refl, sym, ap, ◌∙◌, subst, ℕ, zero, suc, ◌+◌, ◌<◌, ◌≤◌, ◌⊎◌, inl, inr, List, [], ◌∷◌, ◌++◌, length, take, drop, filter, Bool, true, false, cond, nat_eq, nat_le, nat_lt, if◌then◌else◌, slice_get, slice_index, slice_set, Option, Some, None, append_assoc, append-nil, take-append-drop, Contains, arith}
use Rattle.std.proofs.lemmas.Bool.{cases_lt, lt-leb, eqb-true}
use Rattle.std.proofs.lemmas.List.{take-append-le}
use Rattle.std.proofs.lemmas.List.Elements.{filter-append}
use Rattle.std.proofs.lemmas.Option.{slice_get_within}
use Rattle.system_keys.specs.Keys.{Range}
use Rattle.model.specs.Configs.{Config, IsConfig, version_limit}
use Rattle.model.specs.declared.journal.JournalRow.{JournalRow}
use Rattle.model.specs.declared.reply.Reply.{Reply}
use Rattle.model.specs.declared.outcome.Finished.{Finished}
use Rattle.model.specs.Stamps.{AdmittedTransaction}
use Rattle.model.specs.Records.{Record, IsHistory, last_version, records_of_proxy}
use Rattle.model.specs.Shares.{each_below}
use Rattle.model.specs.Journal.{VerdictSource, history_verdicts, journal_row, journal, is_after}
use Rattle.model.specs.World.{World, Event, Sequence, MoveRange, Offer, Finish, Handled, Answer, Sequenced, Moved, Judged, Again, FinishedBatch, Refused, IsSound, initial_world, next_record, handle_sequence, handle_move, reply_of, acknowledged, handle_offer, finished_batch, finished_after, missing_replies, finish_record, handle_finish, handle_event, answers, world_after, refuse, finished_version, up_to_version, proxy_journal, NoSuchProxy}
use Rattle.model.proofs.Members.{Has, Has-from_Contains}
use Rattle.model.proofs.Verdicts.Places.{row_at}
use Rattle.model.proofs.Shares.Askers.{slice_get-append_left, verdict_in_later}
use Rattle.model.proofs.Agreement.Sources.{AllAlike, journal_alike, journal_append, journal_push, history_take, finished_later, replies_later}
use Rattle.model.proofs.History.Growth.{own_version_up_to, records_of_proxy-append, index_there}
use Rattle.model.proofs.Owners.Moves.{last_version_at}
use Rattle.model.proofs.Journals.ReplyRows.{split_at_version}
use Rattle.model.proofs.Worlds.Histories.{happens_sound, start_sound}
use Rattle.model.proofs.History.Chain.{filter_no, slice_get-drop, up_to_front_are, own_up_to_previous, last_versions_rise}

-- ---- one list of events after another

pub answers_append : (config : Config) (w : World) (xs ys : List Event) → answers config w (xs ++ ys) ≡ answers config w xs ++ answers config (world_after config w xs) ys
unfolding answers world_after
answers_append config w [] ys = refl
answers_append config w (event ∷ xs) ys = ap (λ (told : List Answer). (handle_event config w event).answer ∷ told) (answers_append config (handle_event config w event).world xs ys)

pub world_after_append : (config : Config) (w : World) (xs ys : List Event) → world_after config w (xs ++ ys) ≡ world_after config (world_after config w xs) ys
unfolding world_after
world_after_append config w [] ys = refl
world_after_append config w (event ∷ xs) ys = world_after_append config (handle_event config w event).world xs ys

-- ---- a record among those of its proxy

pub record OwnPlace (p : ℕ) (h : List Record) (k : ℕ) (rec : Record) : Type 0 where
  pub i : ℕ
  pub at : slice_get h i ≡ Some rec
  pub own : rec.proxy ≡ p
  pub earlier : records_of_proxy p (take i h) ≡ take k (records_of_proxy p h)

pub own_place : (p : ℕ) (h : List Record) (k : ℕ) (rec : Record) → slice_get (records_of_proxy p h) k ≡ Some rec → OwnPlace p h k rec
own_place p [] k rec at = absurd (cc)
own_place p (x ∷ h) k rec at = by (nat_eq x.proxy p) refl k at (λ (k : ℕ) (is : slice_get (records_of_proxy p h) k ≡ Some rec). own_place p h k rec is)
  where
    by : (t : Bool) → nat_eq x.proxy p ≡ t → (k : ℕ) → slice_get (if t then x ∷ records_of_proxy p h else records_of_proxy p h) k ≡ Some rec → ((k : ℕ) → slice_get (records_of_proxy p h) k ≡ Some rec → OwnPlace p h k rec) → OwnPlace p (x ∷ h) k rec
    by true mine zero is later =
        let same : x ≡ rec = cc in
        record { i = 0; at = is; own = ap (λ (s : Record). s.proxy) (sym same) ∙ eqb-true x.proxy p mine; earlier = refl }
    by true mine (suc k) is later =
        let one = later k is in
        record { i = suc one.i; at = one.at; own = one.own; earlier = rw mine (ap (λ (rs : List Record). x ∷ rs) one.earlier) }
    by false other k is later =
        let one = later k is in
        record { i = suc one.i; at = one.at; own = one.own; earlier = rw other one.earlier }

-- the last version that a proxy finished is the one before the record that it finishes next
pub turn_is : (config : Config) (w : World) (p : ℕ) (rec : Record) → IsSound config w → slice_get (records_of_proxy p w.history) (slice_index w.finished p) ≡ Some rec → finished_version w p ≡ rec.own_previous
turn_is config w p rec sound at =
    let place = own_place p w.history (slice_index w.finished p) rec at in
    let own : rec.own_previous ≡ last_version (records_of_proxy rec.proxy (take place.i w.history)) = (sound.sequencer.history place.i rec place.at).own_previous in
    sym (own ∙ ap (λ (q : ℕ). last_version (records_of_proxy q (take place.i w.history))) place.own ∙ ap last_version place.earlier)

-- ---- a proxy's journal where the event is none of its own

alike_later : (config : Config) (h later : List Record) → IsHistory config h → AllAlike config (history_verdicts config (h ++ later)) (history_verdicts config h) h
alike_later config h later history i rec at =
    let within = slice_get_within h i rec at in
    let row = row_at config h i rec history at in
    record { same = λ r n t resolver there asking. verdict_in_later config h later r rec.row n (omega arith) }

-- what a filter leaves stands in the list
left_at : {X : Type 0} (test : X → Bool) (xs : List X) (k : ℕ) (x : X) → slice_get (filter test xs) k ≡ Some x → (i : ℕ) × (slice_get xs i ≡ Some x)
left_at test [] k x at = absurd (cc)
left_at {X} test (y ∷ ys) k x at = by (test y) k at (λ (k : ℕ) (is : slice_get (filter test ys) k ≡ Some x). left_at test ys k x is)
  where
    by : (t : Bool) (k : ℕ) → slice_get (cond t (y ∷ filter test ys) (filter test ys)) k ≡ Some x → ((k : ℕ) → slice_get (filter test ys) k ≡ Some x → (i : ℕ) × (slice_get ys i ≡ Some x)) → (i : ℕ) × (slice_get (y ∷ ys) i ≡ Some x)
    by true zero is later = (0, is)
    by true (suc k) is later = let found = later k is in (suc found.0, found.1)
    by false k is later = let found = later k is in (suc found.0, found.1)

-- later records change nothing of the journal up to a version below theirs
journal_up_to : (config : Config) (h : List Record) (rec : Record) (version : ℕ) → IsHistory config h → version < rec.version →
    journal config (history_verdicts config (h ++ rec ∷ [])) (up_to_version version (h ++ rec ∷ [])) ≡ journal config (history_verdicts config h) (up_to_version version h)
journal_up_to config h rec version history below =
    ap (journal config (history_verdicts config (h ++ rec ∷ []))) same
    ∙ journal_alike config (history_verdicts config (h ++ rec ∷ [])) (history_verdicts config h) (up_to_version version h) (λ k s at. let there = left_at (λ (s : Record). nat_le s.version version) h k s at in alike_later config h (rec ∷ []) history there.0 s there.1)
  where
    none : up_to_version version (rec ∷ []) ≡ []
    none = let past : nat_le rec.version version ≡ false = lt-leb rec.version version below in rw past refl

    same : up_to_version version (h ++ rec ∷ []) ≡ up_to_version version h
    same = filter-append (λ (s : Record). nat_le s.version version) h (rec ∷ []) ∙ ap (λ (rs : List Record). up_to_version version h ++ rs) none ∙ append-nil (up_to_version version h)

past_end : (ns : List ℕ) (i : ℕ) → length ns ≤ i → slice_index ns i ≡ 0
past_end [] i past = refl
past_end (n ∷ ns) zero past = absurd (omega arith)
past_end (n ∷ ns) (suc i) past = past_end ns i (omega arith)

pub finished_within : (config : Config) (w : World) (p : ℕ) → IsSound config w → slice_index w.finished p ≤ length (records_of_proxy p w.history)
finished_within config w p sound = by (cases_lt p (length w.finished))
  where
    by : (p < length w.finished) ⊎ (length w.finished ≤ p) → slice_index w.finished p ≤ length (records_of_proxy p w.history)
    by (inl there) = sound.finished_there p (slice_index w.finished p) (index_there w.finished p there)
    by (inr past) = let none = past_end w.finished p past in omega (arith, none)

-- the number at another place than the one that is set
pub set_other : (ns : List ℕ) (i n j : ℕ) → (j ≡ i → ⊥) → slice_index (slice_set ns i n) j ≡ slice_index ns j
set_other [] i n j apart = refl
set_other (x ∷ ns) zero n zero apart = absurd (apart refl)
set_other (x ∷ ns) zero n (suc j) apart = refl
set_other (x ∷ ns) (suc i) n zero apart = refl
set_other (x ∷ ns) (suc i) n (suc j) apart = set_other ns i n j (λ same. apart (ap (λ (k : ℕ). suc k) same))

pub set_same : (ns : List ℕ) (i n : ℕ) → i < length ns → slice_index (slice_set ns i n) i ≡ n
set_same [] i n within = absurd (omega arith)
set_same (x ∷ ns) zero n within = refl
set_same (x ∷ ns) (suc i) n within = set_same ns i n (omega arith)

kept_by_record : (config : Config) (w : World) (p : ℕ) (rec : Record) (received : List ℕ) → IsSound config w → last_version w.history < rec.version → proxy_journal config (record w { history = w.history ++ rec ∷ []; received = received }) p ≡ proxy_journal config w p
unfolding proxy_journal
kept_by_record config w p rec received sound above =
    ap (λ (version : ℕ). journal config (history_verdicts config (w.history ++ rec ∷ [])) (up_to_version version (w.history ++ rec ∷ []))) same
    ∙ journal_up_to config w.history rec (finished_version w p) sound.sequencer.history (omega (arith, own_version_up_to config w.history p (slice_index w.finished p) sound.sequencer.history, above))
  where
    same : last_version (take (slice_index w.finished p) (records_of_proxy p (w.history ++ rec ∷ []))) ≡ finished_version w p
    same = ap (λ (rs : List Record). last_version (take (slice_index w.finished p) rs)) (records_of_proxy-append p w.history (rec ∷ [])) ∙ ap last_version (take-append-le (slice_index w.finished p) (records_of_proxy p w.history) (records_of_proxy p (rec ∷ [])) (finished_within config w p sound))

-- both ways of a test keep it
either_kept : (config : Config) (w : World) (p : ℕ) (t : Bool) (first second : Handled) → (t ≡ true → proxy_journal config first.world p ≡ proxy_journal config w p) → (t ≡ false → proxy_journal config second.world p ≡ proxy_journal config w p) → proxy_journal config (if t then first else second).world p ≡ proxy_journal config w p
either_kept config w p true first second one other = one refl
either_kept config w p false first second one other = other refl

kept_by_sequence : (config : Config) (w : World) (p q : ℕ) (batch : List AdmittedTransaction) → IsConfig config → IsSound config w → proxy_journal config (handle_sequence config w q batch).world p ≡ proxy_journal config w p
kept_by_sequence config w p q batch limits sound =
    either_kept config w p (nat_le config.proxies q) _ _ (λ unknown. refl)
    (λ known. either_kept config w p (nat_le version_limit (next_record config w q batch).version) _ _ (λ past. refl)
    (λ within. kept_by_record config w p (next_record config w q batch) (w.received ++ finished_version w q ∷ []) sound (let stepping : 1 ≤ config.step = limits.step.0 in let e : (next_record config w q batch).version ≡ last_version w.history + config.step = refl in omega arith)))

kept_same : (config : Config) (w v : World) (p : ℕ) → v.history ≡ w.history → slice_index v.finished p ≡ slice_index w.finished p → proxy_journal config v p ≡ proxy_journal config w p
unfolding proxy_journal
kept_same config w v p history finished = λ i. journal config (history_verdicts config (history i)) (up_to_version (last_version (take (finished i) (records_of_proxy p (history i)))) (history i))

kept_by_move : (config : Config) (w : World) (p : ℕ) (range : Range) (dest : ℕ) → proxy_journal config (handle_move config w range dest).world p ≡ proxy_journal config w p
kept_by_move config w p range dest = either_kept config w p (nat_le config.resolvers dest) _ _ (λ unknown. refl) (λ known. kept_same config w (record w { moves = w.moves ++ (record { range = range; date = last_version w.history + 1; dest = dest }) ∷ [] }) p refl refl)

kept_by_offer : (config : Config) (w : World) (p row r : ℕ) (found : Option Record) → proxy_journal config (handle_offer config w row r found).world p ≡ proxy_journal config w p
kept_by_offer config w p row r None = refl
kept_by_offer config w p row r (Some rec) =
    either_kept config w p (nat_le config.resolvers r) _ _ (λ unknown. refl)
    (λ known. either_kept config w p (nat_lt (slice_index w.judged_counts r) rec.row) _ _ (λ early. refl)
    (λ due. either_kept config w p (nat_lt rec.row (slice_index w.judged_counts r)) _ _
    (λ again. either_kept config w p (nat_le rec.version (acknowledged w (slice_index w.judged_counts r) rec.proxy)) _ _ (λ given_up. refl) (λ kept. refl))
    (λ turn. kept_same config w (record w { judged_counts = slice_set w.judged_counts r (suc (slice_index w.judged_counts r)) }) p refl refl)))

kept_by_finish : (config : Config) (w : World) (p q : ℕ) (found : Option Record) → (q ≡ p → ⊥) → proxy_journal config (handle_finish config w q found).world p ≡ proxy_journal config w p
kept_by_finish config w p q None apart = refl
kept_by_finish config w p q (Some rec) apart = by (missing_replies w rec.row (each_below config.resolvers))
  where
    by : (waiting : List ℕ) → proxy_journal config (finish_record config w q rec waiting).world p ≡ proxy_journal config w p
    by [] = kept_same config w (record w { finished = slice_set w.finished q (suc (slice_index w.finished q)) }) p refl (set_other w.finished q (suc (slice_index w.finished q)) p (λ same. apart (sym same)))
    by (r ∷ rs) = refl

pub journal_kept : (config : Config) (w : World) (event : Event) (p : ℕ) → IsConfig config → IsSound config w → ¬ (event ≡ Finish p) → proxy_journal config (handle_event config w event).world p ≡ proxy_journal config w p
unfolding handle_event
journal_kept config w (Sequence q batch) p limits sound other = kept_by_sequence config w p q batch limits sound
journal_kept config w (MoveRange range dest) p limits sound other = kept_by_move config w p range dest
journal_kept config w (Offer row r) p limits sound other = kept_by_offer config w p row r (slice_get w.history row)
journal_kept config w (Finish q) p limits sound other =
    either_kept config w p (nat_le config.proxies q) _ _ (λ unknown. refl)
    (λ known. kept_by_finish config w p q (slice_get (records_of_proxy q w.history) (slice_index w.finished q)) (λ same. other (ap (λ (o : ℕ). Finish o) same)))

-- ---- a proxy's journal where it finishes a record

take_next : {X : Type 0} (xs : List X) (k : ℕ) (x : X) → slice_get xs k ≡ Some x → take (suc k) xs ≡ take k xs ++ x ∷ []
take_next [] k x at = absurd (cc)
take_next (y ∷ ys) zero x at = let same : y ≡ x = cc in ap (λ z. z ∷ []) same
take_next (y ∷ ys) (suc k) x at = ap (λ zs. y ∷ zs) (take_next ys k x at)

-- up to a version before a record's, only records before it lie
pub up_to_before : (config : Config) (h : List Record) (i : ℕ) (rec : Record) (version : ℕ) → 1 ≤ config.step → IsHistory config h → slice_get h i ≡ Some rec → version ≤ rec.previous → up_to_version version h ≡ up_to_version version (take i h)
up_to_before config h i rec version stepping history at up_to =
    ap (up_to_version version) (sym (take-append-drop i h))
    ∙ filter-append (λ (s : Record). nat_le s.version version) (take i h) (drop i h)
    ∙ ap (λ (rs : List Record). up_to_version version (take i h) ++ rs) (filter_no (λ (s : Record). nat_le s.version version) (drop i h) (λ k s there. past k s (slice_get-drop h i k (i + k) s refl there)))
    ∙ append-nil (up_to_version version (take i h))
  where
    within : i < length h
    within = slice_get_within h i rec at

    previous : rec.previous ≡ last_version (take i h)
    previous = (history i rec at).previous

    past : (k : ℕ) (s : Record) → slice_get h (i + k) ≡ Some s → nat_le s.version version ≡ false
    past k s there =
        let follows = history (i + k) s there in
        let own : s.previous ≡ last_version (take (i + k) h) = follows.previous in
        let stepped : s.version ≡ s.previous + config.step = follows.version in
        let rise : last_version (take i h) ≤ last_version (take (i + k) h) = last_versions_rise config h i (i + k) history (omega arith) (omega (arith, within)) in
        lt-leb s.version version (omega (arith, own, stepped, rise, previous, up_to))

-- the records up to one are those up to its proxy's record before, those after that, and itself
pub up_to_own : (config : Config) (h : List Record) (i : ℕ) (rec : Record) → 1 ≤ config.step → IsHistory config h → slice_get h i ≡ Some rec → up_to_version rec.version h ≡ up_to_version rec.own_previous h ++ filter (is_after rec.own_previous) (take i h) ++ rec ∷ []
up_to_own config h i rec stepping history at =
    ap (λ (version : ℕ). up_to_version version h) (sym (last_version_at h i rec at))
    ∙ up_to_front_are config h (suc i) stepping history (omega (arith, within))
    ∙ take_next h i rec at
    ∙ ap (λ (rs : List Record). rs ++ rec ∷ []) (sym (split_at_version config (take i h) rec.own_previous (history_take config h i history)) ∙ ap (λ (rs : List Record). rs ++ filter (is_after rec.own_previous) (take i h)) (sym (up_to_before config h i rec rec.own_previous stepping history at (own_up_to_previous config h i rec history at))))
  where
    within : i < length h
    within = slice_get_within h i rec at

pub finish_is : (config : Config) (w : World) (p : ℕ) (rec : Record) → p < config.proxies → slice_get (records_of_proxy p w.history) (slice_index w.finished p) ≡ Some rec → missing_replies w rec.row (each_below config.resolvers) ≡ [] → handle_event config w (Finish p) ≡ finish_record config w p rec []
unfolding handle_event
finish_is config w p rec there at none =
    ap (λ (t : Bool). if t then refuse w NoSuchProxy else handle_finish config w p (slice_get (records_of_proxy p w.history) (slice_index w.finished p))) (lt-leb config.proxies p there)
    ∙ ap (λ (found : Option Record). handle_finish config w p found) at
    ∙ ap (λ (waiting : List ℕ). finish_record config w p rec waiting) none

pub journal_grown : (config : Config) (w : World) (p : ℕ) (rec : Record) → IsConfig config → IsSound config w → p < config.proxies → slice_get (records_of_proxy p w.history) (slice_index w.finished p) ≡ Some rec → missing_replies w rec.row (each_below config.resolvers) ≡ [] →
    proxy_journal config (handle_event config w (Finish p)).world p ≡ proxy_journal config w p ++ journal config (history_verdicts config w.history) (filter (is_after rec.own_previous) (take rec.row w.history)) ++ journal_row config (history_verdicts config w.history) rec ∷ []
unfolding proxy_journal
journal_grown config w p rec limits sound there at none =
    ap (λ (h : Handled). proxy_journal config h.world p) (finish_is config w p rec there at none)
    ∙ ap (λ (done : ℕ). journal config verdict_by (up_to_version (last_version (take done (records_of_proxy p w.history))) w.history)) (set_same w.finished p (suc (slice_index w.finished p)) (omega (arith, there, sound.finished)))
    ∙ ap (λ (version : ℕ). journal config verdict_by (up_to_version version w.history)) (last_version_at (records_of_proxy p w.history) (slice_index w.finished p) rec at)
    ∙ ap (journal config verdict_by) (up_to_own config w.history place.i rec limits.step.0 sound.sequencer.history place.at)
    ∙ journal_push config verdict_by (up_to_version rec.own_previous w.history ++ filter (is_after rec.own_previous) (take place.i w.history)) rec
    ∙ ap (λ (rows : List JournalRow). rows ++ journal_row config verdict_by rec ∷ []) (journal_append config verdict_by (up_to_version rec.own_previous w.history) (filter (is_after rec.own_previous) (take place.i w.history)))
    ∙ ap (λ (version : ℕ). journal config verdict_by (up_to_version version w.history) ++ journal config verdict_by (filter (is_after rec.own_previous) (take place.i w.history)) ++ journal_row config verdict_by rec ∷ []) (sym (turn_is config w p rec sound at))
    ∙ ap (λ (row : ℕ). journal config verdict_by (up_to_version (finished_version w p) w.history) ++ journal config verdict_by (filter (is_after rec.own_previous) (take row w.history)) ++ journal_row config verdict_by rec ∷ []) (sym (row_at config w.history place.i rec sound.sequencer.history place.at))
  where
    place : OwnPlace p w.history (slice_index w.finished p) rec
    place = own_place p w.history (slice_index w.finished p) rec at

    verdict_by : VerdictSource
    verdict_by = history_verdicts config w.history

-- ---- answers by the final history

-- the history of another world goes on from that of this one
record GoesOn (w v : World) : Type 0 where
  later : List Record
  is : v.history ≡ w.history ++ later

stays : (w v : World) → v.history ≡ w.history → GoesOn w v
stays w v same = record { later = []; is = same ∙ sym (append-nil w.history) }

either_goes_on : (w : World) (t : Bool) (first second : Handled) → GoesOn w first.world → GoesOn w second.world → GoesOn w (if t then first else second).world
either_goes_on w true first second one other = one
either_goes_on w false first second one other = other

event_goes_on : (config : Config) (w : World) (event : Event) → GoesOn w (handle_event config w event).world
unfolding handle_event
event_goes_on config w (Sequence p batch) =
    either_goes_on w (nat_le config.proxies p) _ _ (stays w w refl) (either_goes_on w (nat_le version_limit (next_record config w p batch).version) _ _ (stays w w refl) (record { later = next_record config w p batch ∷ []; is = refl }))
event_goes_on config w (MoveRange range dest) =
    either_goes_on w (nat_le config.resolvers dest) _ _ (stays w w refl) (stays w (record w { moves = w.moves ++ (record { range = range; date = last_version w.history + 1; dest = dest }) ∷ [] }) refl)
event_goes_on config w (Offer row r) = by (slice_get w.history row)
  where
    by : (found : Option Record) → GoesOn w (handle_offer config w row r found).world
    by None = stays w w refl
    by (Some rec) =
        either_goes_on w (nat_le config.resolvers r) _ _ (stays w w refl)
        (either_goes_on w (nat_lt (slice_index w.judged_counts r) rec.row) _ _ (stays w w refl)
        (either_goes_on w (nat_lt rec.row (slice_index w.judged_counts r)) _ _
        (either_goes_on w (nat_le rec.version (acknowledged w (slice_index w.judged_counts r) rec.proxy)) _ _ (stays w w refl) (stays w w refl))
        (stays w (record w { judged_counts = slice_set w.judged_counts r (suc (slice_index w.judged_counts r)) }) refl)))
event_goes_on config w (Finish p) = either_goes_on w (nat_le config.proxies p) _ _ (stays w w refl) (by (slice_get (records_of_proxy p w.history) (slice_index w.finished p)))
  where
    waits : (rec : Record) (waiting : List ℕ) → GoesOn w (finish_record config w p rec waiting).world
    waits rec [] = stays w (record w { finished = slice_set w.finished p (suc (slice_index w.finished p)) }) refl
    waits rec (r ∷ rs) = stays w w refl

    by : (found : Option Record) → GoesOn w (handle_finish config w p found).world
    by None = stays w w refl
    by (Some rec) = waits rec (missing_replies w rec.row (each_below config.resolvers))

run_goes_on : (config : Config) (w : World) (events : List Event) → GoesOn w (world_after config w events)
unfolding world_after
run_goes_on config w [] = stays w w refl
run_goes_on config w (event ∷ events) =
    let first = event_goes_on config w event in
    let rest = run_goes_on config (handle_event config w event).world events in
    record { later = first.later ++ rest.later; is = rest.is ∙ ap (λ (rs : List Record). rs ++ rest.later) first.is ∙ append_assoc w.history first.later rest.later }

-- a finished batch, and a reply, as the history has them
abbrev pub IsFinishedBy : Config → List Record → Finished → Type 0
IsFinishedBy config h f = (rec : Record) × (slice_get h f.row ≡ Some rec) × (f ≡ finished_batch config (history_verdicts config h) (take f.row h) rec)

abbrev pub IsReplyBy : Config → List Record → Reply → Type 0
IsReplyBy config h reply = (rec : Record) × (slice_get h reply.row ≡ Some rec) × (reply ≡ reply_of config (history_verdicts config h) reply.resolver (take reply.row h) rec)

-- an answer that says something of a record says it by the history
abbrev IsToldBy : Config → List Record → Answer → Type 0
IsToldBy config h (Sequenced row version) = Unit {0}
IsToldBy config h (Moved date) = Unit {0}
IsToldBy config h (Judged reply) = IsReplyBy config h reply
IsToldBy config h (Again reply) = IsReplyBy config h reply
IsToldBy config h (FinishedBatch f) = IsFinishedBy config h f
IsToldBy config h (Refused why) = Unit {0}

reply_longer : (config : Config) (h later : List Record) (reply : Reply) → IsHistory config h → IsReplyBy config h reply → IsReplyBy config (h ++ later) reply
reply_longer config h later reply history (rec, at, is) =
    let within : reply.row < length h = slice_get_within h reply.row rec at in
    (rec, slice_get-append_left h later reply.row within ∙ at, is ∙ sym (replies_later config h later reply.resolver reply.row rec history at))

finished_longer : (config : Config) (h later : List Record) (f : Finished) → IsHistory config h → IsFinishedBy config h f → IsFinishedBy config (h ++ later) f
finished_longer config h later f history (rec, at, is) =
    let within : f.row < length h = slice_get_within h f.row rec at in
    (rec, slice_get-append_left h later f.row within ∙ at, is ∙ sym (finished_later config h later f.row rec history at))

told_longer : (config : Config) (h later : List Record) (answer : Answer) → IsHistory config h → IsToldBy config h answer → IsToldBy config (h ++ later) answer
told_longer config h later (Sequenced row version) history told = tt
told_longer config h later (Moved date) history told = tt
told_longer config h later (Judged reply) history told = reply_longer config h later reply history told
told_longer config h later (Again reply) history told = reply_longer config h later reply history told
told_longer config h later (FinishedBatch f) history told = finished_longer config h later f history told
told_longer config h later (Refused why) history told = tt

either_told : (config : Config) (h : List Record) (t : Bool) (first second : Handled) → IsToldBy config h first.answer → IsToldBy config h second.answer → IsToldBy config h (if t then first else second).answer
either_told config h true first second one other = one
either_told config h false first second one other = other

reply_told : (config : Config) (h : List Record) (row r : ℕ) (rec : Record) → IsHistory config h → slice_get h row ≡ Some rec → IsReplyBy config h (reply_of config (history_verdicts config h) r (take row h) rec)
reply_told config h row r rec history at =
    let same : rec.row ≡ row = row_at config h row rec history at in
    (rec, ap (slice_get h) same ∙ at, ap (λ (k : ℕ). reply_of config (history_verdicts config h) r (take k h) rec) (sym same))

batch_told : (config : Config) (w : World) (p : ℕ) (rec : Record) → IsHistory config w.history → slice_get (records_of_proxy p w.history) (slice_index w.finished p) ≡ Some rec → IsFinishedBy config w.history (finished_batch config (history_verdicts config w.history) (take rec.row w.history) rec)
unfolding finished_after
batch_told config w p rec history at =
    let place = own_place p w.history (slice_index w.finished p) rec at in
    let same : rec.row ≡ place.i = row_at config w.history place.i rec history place.at in
    (rec, ap (slice_get w.history) same ∙ place.at, refl)

event_told : (config : Config) (w : World) (event : Event) → IsSound config w → IsToldBy config w.history (handle_event config w event).answer
unfolding handle_event
event_told config w (Sequence p batch) sound = either_told config w.history (nat_le config.proxies p) _ _ tt (either_told config w.history (nat_le version_limit (next_record config w p batch).version) _ _ tt tt)
event_told config w (MoveRange range dest) sound = either_told config w.history (nat_le config.resolvers dest) _ _ tt tt
event_told config w (Offer row r) sound = by (slice_get w.history row) refl
  where
    by : (found : Option Record) → slice_get w.history row ≡ found → IsToldBy config w.history (handle_offer config w row r found).answer
    by None is = tt
    by (Some rec) is =
        let told : IsReplyBy config w.history (reply_of config (history_verdicts config w.history) r (take row w.history) rec) = reply_told config w.history row r rec sound.sequencer.history is in
        either_told config w.history (nat_le config.resolvers r) _ _ tt
        (either_told config w.history (nat_lt (slice_index w.judged_counts r) rec.row) _ _ tt
        (either_told config w.history (nat_lt rec.row (slice_index w.judged_counts r)) _ _
        (either_told config w.history (nat_le rec.version (acknowledged w (slice_index w.judged_counts r) rec.proxy)) _ _ tt told)
        told))
event_told config w (Finish p) sound = either_told config w.history (nat_le config.proxies p) _ _ tt (by (slice_get (records_of_proxy p w.history) (slice_index w.finished p)) refl)
  where
    waits : (rec : Record) (waiting : List ℕ) → slice_get (records_of_proxy p w.history) (slice_index w.finished p) ≡ Some rec → IsToldBy config w.history (finish_record config w p rec waiting).answer
    waits rec [] at = batch_told config w p rec sound.sequencer.history at
    waits rec (r ∷ rs) at = tt

    by : (found : Option Record) → slice_get (records_of_proxy p w.history) (slice_index w.finished p) ≡ found → IsToldBy config w.history (handle_finish config w p found).answer
    by None is = tt
    by (Some rec) is = waits rec (missing_replies w rec.row (each_below config.resolvers)) is

run_told : (config : Config) (w : World) (events : List Event) (answer : Answer) → IsSound config w → Has (answers config w events) answer → IsToldBy config (world_after config w events).history answer
unfolding answers world_after
run_told config w [] answer sound has = absurd has
run_told config w (event ∷ events) answer sound (inl same) =
    let on = run_goes_on config w (event ∷ events) in
    let here : IsToldBy config w.history answer = subst (λ (a : Answer). IsToldBy config w.history a) same (event_told config w event sound) in
    subst (λ (h : List Record). IsToldBy config h answer) (sym on.is) (told_longer config w.history on.later answer sound.sequencer.history here)
run_told config w (event ∷ events) answer sound (inr later) = run_told config (handle_event config w event).world events answer (happens_sound config w event sound) later

pub completed_told : (config : Config) (events : List Event) (f : Finished) → Contains (answers config (initial_world config) events) (FinishedBatch f) → IsFinishedBy config (world_after config (initial_world config) events).history f
completed_told config events f there = run_told config (initial_world config) events (FinishedBatch f) (start_sound config) (Has-from_Contains (answers config (initial_world config) events) (FinishedBatch f) there)

pub judged_told : (config : Config) (events : List Event) (reply : Reply) → Contains (answers config (initial_world config) events) (Judged reply) → IsReplyBy config (world_after config (initial_world config) events).history reply
judged_told config events reply there = run_told config (initial_world config) events (Judged reply) (start_sound config) (Has-from_Contains (answers config (initial_world config) events) (Judged reply) there)

pub again_told : (config : Config) (events : List Event) (reply : Reply) → Contains (answers config (initial_world config) events) (Again reply) → IsReplyBy config (world_after config (initial_world config) events).history reply
again_told config events reply there = run_told config (initial_world config) events (Again reply) (start_sound config) (Has-from_Contains (answers config (initial_world config) events) (Again reply) there)
