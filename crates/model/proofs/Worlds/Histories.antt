-- Every run of events makes a history, and no count of it runs ahead of the records.
use Rattle.std.proofs.Common.{◌≡◌, refl, sym, ap, ◌∙◌, subst, ℕ, zero, suc, ◌+◌, ◌<◌, ◌≤◌, ◌⊎◌, inl, inr, List, [], ◌∷◌, ◌++◌, length, take, replicate, Bool, true, false, nat_le, nat_lt, if◌then◌else◌, slice_get, slice_index, slice_set, Option, Some, None, length-append, leb-false, arith}
use Rattle.std.proofs.lemmas.Bool.{cases_order, ltb-false}
use Rattle.std.proofs.lemmas.List.{length-replicate, length-set}
use Rattle.std.proofs.lemmas.Option.{slice_get_within}
use Rattle.system_keys.specs.Keys.{Range}
use Rattle.model.specs.Configs.{Config, version_limit}
use Rattle.model.specs.declared.moves.Move.{Move}
use Rattle.model.specs.declared.reply.Reply.{Reply}
use Rattle.model.specs.Stamps.{AdmittedTransaction}
use Rattle.model.specs.Records.{Record, Follows, IsMadeAfter, last_version, records_of_proxy}
use Rattle.model.specs.Shares.{each_below}
use Rattle.model.specs.Journal.{history_verdicts}
use Rattle.model.specs.World.{World, Event, Sequence, MoveRange, Offer, Finish, Handled, IsSound, initial_world, next_record, handle_sequence, handle_move, reply_of, acknowledged, handle_repeat, handle_offer_at, handle_offer, missing_replies, finish_record, handle_finish, handle_event, world_after, refuse, finished_version, Early, Judged, Sequenced, Moved, NoSuchProxy, NoSuchResolver, VersionsEnd}
use Rattle.model.proofs.Members.{Has, Has-filter}
use Rattle.model.proofs.History.Growth.{push_cases, index_there, set_cases, Has-each_below, no_moves, moves_follow_record, moves_follow_move, records_of_proxy-append, own_version_up_to}
use Rattle.model.proofs.Verdicts.Places.{row_at}
use Rattle.model.proofs.Shares.Askers.{slice_get-append_left}

-- ---- a batch gets its record

within_limit : (n limit : ℕ) → nat_le limit n ≡ false → n < limit
within_limit n limit h = leb-false limit n h

next_follows : (config : Config) (w : World) (p : ℕ) (batch : List AdmittedTransaction) → IsSound config w → nat_le config.proxies p ≡ false → nat_le version_limit (next_record config w p batch).version ≡ false → Follows config w.history (next_record config w p batch)
next_follows config w p batch sound there below =
    record {
      row = refl;
      previous = refl;
      version = refl;
      representable = within_limit (next_record config w p batch).version version_limit below;
      own_previous = refl;
      proxy = within_limit p config.proxies there;
      kept_moves = sound.sequencer.kept_moves;
      further_moves = sound.sequencer.further_moves;
    }

-- the records of a proxy stay where they are
of_proxy_at : (q : ℕ) (h : List Record) (rec : Record) (k : ℕ) (s : Record) → k < length (records_of_proxy q h) → slice_get (records_of_proxy q (h ++ rec ∷ [])) k ≡ Some s → slice_get (records_of_proxy q h) k ≡ Some s
of_proxy_at q h rec k s within at = sym (ap (λ (rs : List Record). slice_get rs k) (records_of_proxy-append q h (rec ∷ [])) ∙ slice_get-append_left (records_of_proxy q h) (records_of_proxy q (rec ∷ [])) k within) ∙ at

of_proxy_longer : (q : ℕ) (h : List Record) (rec : Record) → length (records_of_proxy q h) ≤ length (records_of_proxy q (h ++ rec ∷ []))
of_proxy_longer q h rec = omega (arith, ap length (records_of_proxy-append q h (rec ∷ [])), length-append (records_of_proxy q h) (records_of_proxy q (rec ∷ [])))

with_record : (config : Config) (w : World) (rec : Record) (received : ℕ) → IsSound config w → Follows config w.history rec → rec.moves ≡ w.moves → received ≤ rec.previous → IsSound config (record w { history = w.history ++ rec ∷ []; received = w.received ++ received ∷ [] })
with_record config w rec received sound follows all below =
    record {
      sequencer = moves_follow_record config w.history rec w.moves sound.sequencer follows all;
      received = length-append w.received (received ∷ []) ∙ ap (λ (k : ℕ). k + 1) sound.received ∙ sym (length-append w.history (rec ∷ []));
      judged_counts = sound.judged_counts;
      finished = sound.finished;
      received_before = λ i n s is told. before i n s (push_cases w.history rec i s is) (push_cases w.received received i n told);
      judged_there = λ r judged_count is. omega (arith, sound.judged_there r judged_count is, length-append w.history (rec ∷ []));
      finished_there = λ q done is. omega (arith, sound.finished_there q done is, of_proxy_longer q w.history rec);
      judged_first = λ q done k r judged_count s is below_done at count_is.
          sound.judged_first q done k r judged_count s is below_done (of_proxy_at q w.history rec k s (omega (arith, sound.finished_there q done is, below_done)) at) count_is;
    }
  where
    before : (i n : ℕ) (s : Record) → ((i ≡ length w.history) × (rec ≡ s)) ⊎ ((i < length w.history) × (slice_get w.history i ≡ Some s)) → ((i ≡ length w.received) × (received ≡ n)) ⊎ ((i < length w.received) × (slice_get w.received i ≡ Some n)) → n ≤ s.previous
    before i n s (inl last) (inl told) = subst (λ (k : ℕ). k ≤ s.previous) told.1 (subst (λ (other : Record). received ≤ other.previous) last.1 below)
    before i n s (inl last) (inr told) = absurd (omega (arith, last.0, told.0, sound.received))
    before i n s (inr there) (inl told) = absurd (omega (arith, there.0, told.0, sound.received))
    before i n s (inr there) (inr told) = sound.received_before i n s there.1 told.1

sequenced_sound : (config : Config) (w : World) (p : ℕ) (batch : List AdmittedTransaction) → IsSound config w → IsSound config (handle_sequence config w p batch).world
sequenced_sound config w p batch sound = by (nat_le config.proxies p) refl (nat_le version_limit (next_record config w p batch).version) refl
  where
    by : (s : Bool) → nat_le config.proxies p ≡ s → (t : Bool) → nat_le version_limit (next_record config w p batch).version ≡ t →
        IsSound config (if s then refuse w NoSuchProxy else if t then refuse w VersionsEnd else record { world = record w { history = w.history ++ next_record config w p batch ∷ []; received = w.received ++ finished_version w p ∷ [] }; answer = Sequenced (length w.history) (last_version w.history + config.step) }).world
    by true unknown t limit = sound
    by false known true limit = sound
    by false known false limit =
        with_record config w (next_record config w p batch) (finished_version w p) sound (next_follows config w p batch sound known limit) refl (own_version_up_to config w.history p (slice_index w.finished p) sound.sequencer.history)

-- ---- a range moves

moved_sound : (config : Config) (w : World) (range : Range) (dest : ℕ) → IsSound config w → IsSound config (handle_move config w range dest).world
moved_sound config w range dest sound = by (nat_le config.resolvers dest) refl
  where
    by : (t : Bool) → nat_le config.resolvers dest ≡ t →
        IsSound config (if t then refuse w NoSuchResolver else record { world = record w { moves = w.moves ++ (record { range = range; date = last_version w.history + 1; dest = dest }) ∷ [] }; answer = Moved (last_version w.history + 1) }).world
    by true unknown = sound
    by false known =
        let m : Move = record { range = range; date = last_version w.history + 1; dest = dest } in
        let made : IsMadeAfter config (last_version w.history) m = record { date = refl; dest = within_limit dest config.resolvers known } in
        record {
          sequencer = moves_follow_move config w.history w.moves m sound.sequencer made;
          received = sound.received;
          judged_counts = sound.judged_counts;
          finished = sound.finished;
          received_before = sound.received_before;
          judged_there = sound.judged_there;
          finished_there = sound.finished_there;
          judged_first = sound.judged_first;
        }

-- ---- a resolver judges a row

-- where both ways of a test are sound, so is the way taken
either_sound : (config : Config) (t : Bool) (first second : Handled) → (t ≡ true → IsSound config first.world) → (t ≡ false → IsSound config second.world) → IsSound config (if t then first else second).world
either_sound config true first second one other = one refl
either_sound config false first second one other = other refl

with_judged_count : (config : Config) (w : World) (r : ℕ) → IsSound config w → r < config.resolvers → slice_index w.judged_counts r < length w.history → IsSound config (record w { judged_counts = slice_set w.judged_counts r (suc (slice_index w.judged_counts r)) })
with_judged_count config w r sound there more =
    record {
      sequencer = sound.sequencer;
      received = sound.received;
      judged_counts = length-set w.judged_counts r (suc (slice_index w.judged_counts r)) ∙ sound.judged_counts;
      finished = sound.finished;
      received_before = sound.received_before;
      judged_there = λ s judged_count is. up_to s judged_count (set_cases w.judged_counts r (suc (slice_index w.judged_counts r)) s judged_count is);
      finished_there = sound.finished_there;
      judged_first = λ p done k s judged_count rec is below at count_is. first p done k s judged_count rec is below at (set_cases w.judged_counts r (suc (slice_index w.judged_counts r)) s judged_count count_is);
    }
  where
    own : slice_get w.judged_counts r ≡ Some (slice_index w.judged_counts r)
    own = index_there w.judged_counts r (omega (arith, there, sound.judged_counts))

    up_to : (s judged_count : ℕ) → ((s ≡ r) × (judged_count ≡ suc (slice_index w.judged_counts r))) ⊎ (slice_get w.judged_counts s ≡ Some judged_count) → judged_count ≤ length w.history
    up_to s judged_count (inl here) = omega (arith, here.1, more)
    up_to s judged_count (inr old) = sound.judged_there s judged_count old

    first : (p done k s judged_count : ℕ) (rec : Record) → slice_get w.finished p ≡ Some done → k < done → slice_get (records_of_proxy p w.history) k ≡ Some rec → ((s ≡ r) × (judged_count ≡ suc (slice_index w.judged_counts r))) ⊎ (slice_get w.judged_counts s ≡ Some judged_count) → rec.row < judged_count
    first p done k s judged_count rec is below at (inl here) = omega (arith, here.1, sound.judged_first p done k r (slice_index w.judged_counts r) rec is below at own)
    first p done k s judged_count rec is below at (inr old) = sound.judged_first p done k s judged_count rec is below at old

repeated_sound : (config : Config) (w : World) (reply : Reply) (received : ℕ) → IsSound config w → IsSound config (handle_repeat w reply received).world
repeated_sound config w reply received sound = either_sound config (nat_le reply.version received) _ _ (λ given_up. sound) (λ again. sound)

offered_at_sound : (config : Config) (w : World) (r : ℕ) (reply : Reply) → reply.row < length w.history → r < config.resolvers → IsSound config w → IsSound config (handle_offer_at w (slice_index w.judged_counts r) r reply).world
offered_at_sound config w r reply within there sound =
    by (nat_lt (slice_index w.judged_counts r) reply.row) (nat_lt reply.row (slice_index w.judged_counts r)) refl
  where
    by : (s t : Bool) → nat_lt reply.row (slice_index w.judged_counts r) ≡ t →
        IsSound config (if s then refuse w (Early (last_version (take (slice_index w.judged_counts r) w.history))) else if t then handle_repeat w reply (acknowledged w (slice_index w.judged_counts r) reply.proxy) else record { world = record w { judged_counts = slice_set w.judged_counts r (suc (slice_index w.judged_counts r)) }; answer = Judged reply }).world
    by true t is = sound
    by false true again = repeated_sound config w reply (acknowledged w (slice_index w.judged_counts r) reply.proxy) sound
    by false false turn = let up : slice_index w.judged_counts r ≤ reply.row = ltb-false reply.row (slice_index w.judged_counts r) turn in with_judged_count config w r sound there (omega (arith, within, up))

offered_sound : (config : Config) (w : World) (row r : ℕ) (found : Option Record) → slice_get w.history row ≡ found → IsSound config w → IsSound config (handle_offer config w row r found).world
offered_sound config w row r None is sound = sound
offered_sound config w row r (Some rec) is sound =
    either_sound config (nat_le config.resolvers r) _ _ (λ unknown. sound)
    (λ known. offered_at_sound config w r (reply_of config (history_verdicts config w.history) r (take row w.history) rec) (omega (arith, row_at config w.history row rec sound.sequencer.history is, slice_get_within w.history row rec is)) (within_limit r config.resolvers known) sound)

-- ---- a proxy finishes a record

-- a resolver that is not missing has judged the row
none_missing : (config : Config) (w : World) (row r : ℕ) → missing_replies w row (each_below config.resolvers) ≡ [] → r < config.resolvers → row < slice_index w.judged_counts r
none_missing config w row r none there = within_limit row (slice_index w.judged_counts r) (by (nat_le (slice_index w.judged_counts r) row) refl)
  where
    by : (t : Bool) → nat_le (slice_index w.judged_counts r) row ≡ t → t ≡ false
    by true lacks = absurd (subst (λ (rs : List ℕ). Has rs r) none (Has-filter (λ (s : ℕ). nat_le (slice_index w.judged_counts s) row) (each_below config.resolvers) r (Has-each_below config.resolvers r there) lacks))
    by false has = refl

with_finished : (config : Config) (w : World) (p : ℕ) (rec : Record) → IsSound config w → p < config.proxies → slice_get (records_of_proxy p w.history) (slice_index w.finished p) ≡ Some rec → missing_replies w rec.row (each_below config.resolvers) ≡ []
    → IsSound config (record w { finished = slice_set w.finished p (suc (slice_index w.finished p)) })
with_finished config w p rec sound there at none =
    record {
      sequencer = sound.sequencer;
      received = sound.received;
      judged_counts = sound.judged_counts;
      finished = length-set w.finished p (suc (slice_index w.finished p)) ∙ sound.finished;
      received_before = sound.received_before;
      judged_there = sound.judged_there;
      finished_there = λ q done is. up_to q done (set_cases w.finished p (suc (slice_index w.finished p)) q done is);
      judged_first = λ q done k r judged_count s is below s_is count_is. first q done k r judged_count s (set_cases w.finished p (suc (slice_index w.finished p)) q done is) below s_is count_is;
    }
  where
    own : slice_get w.finished p ≡ Some (slice_index w.finished p)
    own = index_there w.finished p (omega (arith, there, sound.finished))

    up_to : (q done : ℕ) → ((q ≡ p) × (done ≡ suc (slice_index w.finished p))) ⊎ (slice_get w.finished q ≡ Some done) → done ≤ length (records_of_proxy q w.history)
    up_to q done (inl here) = omega (arith, here.1, slice_get_within (records_of_proxy p w.history) (slice_index w.finished p) rec at, ap (λ (s : ℕ). length (records_of_proxy s w.history)) here.0)
    up_to q done (inr old) = sound.finished_there q done old

    count_of : (r judged_count : ℕ) → slice_get w.judged_counts r ≡ Some judged_count → rec.row < judged_count
    count_of r judged_count is =
        let within = slice_get_within w.judged_counts r judged_count is in
        let same : Some judged_count ≡ Some (slice_index w.judged_counts r) = sym is ∙ index_there w.judged_counts r within in
        let here : judged_count ≡ slice_index w.judged_counts r = cc in
        omega (arith, here, none_missing config w rec.row r none (omega (arith, within, sound.judged_counts)))

    last : (k r judged_count : ℕ) (s : Record) → slice_get (records_of_proxy p w.history) k ≡ Some s → slice_get w.judged_counts r ≡ Some judged_count → k ≡ slice_index w.finished p → s.row < judged_count
    last k r judged_count s s_is count_is here =
        let both : Some s ≡ Some rec = sym s_is ∙ ap (slice_get (records_of_proxy p w.history)) here ∙ at in
        let same : rec ≡ s = cc in
        subst (λ (other : Record). other.row < judged_count) same (count_of r judged_count count_is)

    own_first : (k r judged_count : ℕ) (s : Record) → k < suc (slice_index w.finished p) → slice_get (records_of_proxy p w.history) k ≡ Some s → slice_get w.judged_counts r ≡ Some judged_count → s.row < judged_count
    own_first k r judged_count s below s_is count_is = go (cases_order k (slice_index w.finished p))
      where
        go : (k ≡ slice_index w.finished p) ⊎ ((k < slice_index w.finished p) ⊎ (slice_index w.finished p < k)) → s.row < judged_count
        go (inl here) = last k r judged_count s s_is count_is here
        go (inr (inl sooner)) = sound.judged_first p (slice_index w.finished p) k r judged_count s own sooner s_is count_is
        go (inr (inr past)) = absurd (omega (arith, below, past))

    first : (q done k r judged_count : ℕ) (s : Record) → ((q ≡ p) × (done ≡ suc (slice_index w.finished p))) ⊎ (slice_get w.finished q ≡ Some done) → k < done → slice_get (records_of_proxy q w.history) k ≡ Some s → slice_get w.judged_counts r ≡ Some judged_count → s.row < judged_count
    first q done k r judged_count s (inl here) below s_is count_is =
        own_first k r judged_count s (subst (λ (n : ℕ). k < n) here.1 below) (subst (λ (o : ℕ). slice_get (records_of_proxy o w.history) k ≡ Some s) here.0 s_is) count_is
    first q done k r judged_count s (inr old) below s_is count_is = sound.judged_first q done k r judged_count s old below s_is count_is

finishing_sound : (config : Config) (w : World) (p : ℕ) (rec : Record) (waiting : List ℕ) → missing_replies w rec.row (each_below config.resolvers) ≡ waiting → p < config.proxies → slice_get (records_of_proxy p w.history) (slice_index w.finished p) ≡ Some rec → IsSound config w → IsSound config (finish_record config w p rec waiting).world
finishing_sound config w p rec [] none there at sound = with_finished config w p rec sound there at none
finishing_sound config w p rec (r ∷ rs) some there at sound = sound

finished_sound : (config : Config) (w : World) (p : ℕ) (found : Option Record) → slice_get (records_of_proxy p w.history) (slice_index w.finished p) ≡ found → p < config.proxies → IsSound config w → IsSound config (handle_finish config w p found).world
finished_sound config w p None at there sound = sound
finished_sound config w p (Some rec) at there sound = finishing_sound config w p rec (missing_replies w rec.row (each_below config.resolvers)) refl there at sound

-- ---- all events

pub happens_sound : (config : Config) (w : World) (event : Event) → IsSound config w → IsSound config (handle_event config w event).world
unfolding handle_event
happens_sound config w (Sequence p batch) sound = sequenced_sound config w p batch sound
happens_sound config w (MoveRange range dest) sound = moved_sound config w range dest sound
happens_sound config w (Offer row r) sound = offered_sound config w row r (slice_get w.history row) refl sound
happens_sound config w (Finish p) sound = either_sound config (nat_le config.proxies p) _ _ (λ unknown. sound) (λ known. finished_sound config w p (slice_get (records_of_proxy p w.history) (slice_index w.finished p)) refl (within_limit p config.proxies known) sound)

-- nothing stands in a list of zeros but zeros
zeros : (n i k : ℕ) → slice_get (replicate n 0) i ≡ Some k → k ≡ 0
zeros zero i k at = absurd (cc)
zeros (suc n) zero k at = cc
zeros (suc n) (suc i) k at = zeros n i k at

pub start_sound : (config : Config) → IsSound config (initial_world config)
start_sound config =
    record {
      sequencer = no_moves config;
      received = refl;
      judged_counts = length-replicate config.resolvers 0;
      finished = length-replicate config.proxies 0;
      received_before = λ i received rec at told. absurd (cc);
      judged_there = λ r judged_count is. let none = zeros config.resolvers r judged_count is in omega arith;
      finished_there = λ p done is. let none = zeros config.proxies p done is in omega arith;
      judged_first = λ p done k r judged_count rec is below at count_is. let none = zeros config.proxies p done is in absurd (omega arith);
    }

pub world_after_sound : (config : Config) (w : World) (events : List Event) → IsSound config w → IsSound config (world_after config w events)
unfolding world_after
world_after_sound config w [] sound = sound
world_after_sound config w (event ∷ events) sound = world_after_sound config (handle_event config w event).world events (happens_sound config w event sound)

-- every run is sound, and so its records are a history
pub run_sound : (config : Config) (events : List Event) → IsSound config (world_after config (initial_world config) events)
run_sound config events = world_after_sound config (initial_world config) events (start_sound config)
