-- A resolver remembers the rows that the slowest proxy has not reached.
use Rattle.std.proofs.Common.{◌≡◌, refl, sym, ap, ◌∙◌, ℕ, zero, suc, ◌+◌, ◌<◌, ◌≤◌, List, length, drop, filter, nat_eq, slice_get, slice_index, Some, length-append, arith}
use Rattle.std.proofs.lemmas.Bool.{eq-eqb}
use Rattle.std.proofs.lemmas.List.{length-take-le}
use Rattle.std.proofs.Math.Seq.{drop-append_seam}
use Rattle.model.specs.Configs.{Config, IsConfig}
use Rattle.model.specs.Records.{Record, IsHistory, last_version, records_of_proxy}
use Rattle.model.specs.Journal.{is_after, remembered}
use Rattle.model.specs.World.{World, IsSound, up_to_version, rows_up_to, remembered_by}
use Rattle.model.proofs.Agreement.Sources.{history_take}
use Rattle.model.proofs.History.Chain.{element_at, rows_up_to_record}
use Rattle.model.proofs.History.Growth.{index_there}
use Rattle.model.proofs.Journals.ReplyRows.{split_at_version}
use Rattle.model.proofs.Resolvers.Offers.{judged_within}
use Rattle.model.proofs.Resolvers.Remembered.{reached_up_to, reached_by}
use Rattle.model.proofs.Verdicts.Places.{row_at, slice_get-take_back}
use Rattle.model.proofs.Worlds.Runs.{own_place, finished_within}
use Rattle.endings.specs.Distances.{rows_known, judged_by, rows_reached, RememberedRowsFollowTheSlowest, FinishedRowsWereReached, TheSlowestBoundsWhatIsRemembered}
use Rattle.endings.proofs.Distances.{none_known, known_up_to, up_to_more}
use Rattle.endings.proofs.OwnRecords.{kept_at, own_up_to}

judged_history : (config : Config) (w : World) (r : ℕ) → IsSound config w → IsHistory config (judged_by w r)
judged_history config w r sound = history_take config w.history (slice_index w.judged_counts r) sound.sequencer.history

-- ---- what is remembered

-- the records after a version stand behind those up to it
after_is_behind : (config : Config) (h : List Record) (version : ℕ) → IsHistory config h → filter (is_after version) h ≡ drop (rows_up_to version h) h
after_is_behind config h version history = sym (ap (drop (rows_up_to version h)) (sym (split_at_version config h version history)) ∙ drop-append_seam (up_to_version version h) (filter (is_after version) h))

-- the version that proxy p has reached with the requests that resolver r judged
abbrev reached : World → (r p : ℕ) → ℕ
reached w r p = last_version (records_of_proxy p (judged_by w r))

-- the proxy that has reached least: the records after its version are remembered
record Least (config : Config) (w : World) (r : ℕ) : Type 0 where
  q : ℕ
  there : q < config.proxies
  is : remembered_by config w r ≡ filter (is_after (reached w r q)) (judged_by w r)
  least : (p : ℕ) → p < config.proxies → reached w r q ≤ reached w r p

least_of : (config : Config) (w : World) (r : ℕ) → IsConfig config → Least config w r
unfolding remembered
least_of config w r limits =
    let one = reached_by config (judged_by w r) (omega (arith, limits.proxies.0)) in
    record {
      q = one.0;
      there = one.1;
      is = ap (λ (version : ℕ). filter (is_after version) (judged_by w r)) one.2;
      least = λ p below. omega (arith, one.2, reached_up_to config (judged_by w r) p below);
    }

pub follows_slowest : RememberedRowsFollowTheSlowest
follows_slowest config w r p limits sound there slowest =
    let least = least_of config w r limits in
    let up : rows_reached w r least.q ≤ rows_reached w r p = up_to_more (reached w r least.q) (reached w r p) (judged_by w r) (least.least p slowest.0) in
    let down : rows_reached w r p ≤ rows_reached w r least.q = slowest.1 least.q least.there in
    let same : rows_reached w r least.q ≡ rows_reached w r p = omega (arith, up, down) in
    least.is ∙ after_is_behind config (judged_by w r) (reached w r least.q) (judged_history config w r sound) ∙ ap (λ (n : ℕ). drop n (judged_by w r)) same

-- ---- what is known was reached

reached_some : (config : Config) (w : World) (r p done : ℕ) → IsConfig config → IsSound config w → r < config.resolvers → p < config.proxies → slice_index w.finished p ≡ suc done → rows_known w p ≤ rows_reached w r p
reached_some config w r p done limits sound there proxy is =
    let last = element_at (records_of_proxy p w.history) done (omega (arith, is, finished_within config w p sound)) in
    let rec : Record = last.0 in
    let place = own_place p w.history done rec last.1 in
    let row : rec.row ≡ place.i = row_at config w.history place.i rec sound.sequencer.history place.at in
    let judged : rec.row < slice_index w.judged_counts r = sound.judged_first p (slice_index w.finished p) done r (slice_index w.judged_counts r) rec (index_there w.finished p (omega (arith, proxy, sound.finished))) (omega (arith, is)) last.1 (index_there w.judged_counts r (omega (arith, there, sound.judged_counts))) in
    let at : slice_get (judged_by w r) rec.row ≡ Some rec = slice_get-take_back w.history (slice_index w.judged_counts r) rec.row rec judged (ap (slice_get w.history) row ∙ place.at) in
    let own = kept_at (λ (s : Record). nat_eq s.proxy p) (judged_by w r) rec.row rec at (eq-eqb rec.proxy p place.own) in
    let more = up_to_more rec.version (reached w r p) (judged_by w r) (own_up_to config (judged_by w r) p own.0 rec (judged_history config w r sound) own.1) in
    let count : rows_up_to rec.version (judged_by w r) ≡ suc rec.row = rows_up_to_record config (judged_by w r) rec.row rec limits.step.0 (judged_history config w r sound) at in
    let known : rows_known w p ≡ suc rec.row = known_up_to config w p done rec limits sound is last.1 in
    omega (arith, known, count, more)

pub were_reached : FinishedRowsWereReached
were_reached config w r p limits sound there proxy = by (slice_index w.finished p) refl
  where
    by : (done : ℕ) → slice_index w.finished p ≡ done → rows_known w p ≤ rows_reached w r p
    by zero is = omega (arith, none_known config w p limits sound is)
    by (suc done) is = reached_some config w r p done limits sound there proxy is

-- ---- the bound

pub slowest_bounds : TheSlowestBoundsWhatIsRemembered
slowest_bounds config w r p limits sound there slowest =
    let least = least_of config w r limits in
    let judged : List Record = judged_by w r in
    let count : length (remembered_by config w r) ≡ length (filter (is_after (reached w r least.q)) judged) = ap length least.is in
    let parts : rows_reached w r least.q + length (filter (is_after (reached w r least.q)) judged) ≡ length judged =
    sym (length-append (up_to_version (reached w r least.q) judged) (filter (is_after (reached w r least.q)) judged)) ∙ ap length (split_at_version config judged (reached w r least.q) (judged_history config w r sound)) in
    let all : length judged ≡ slice_index w.judged_counts r = length-take-le (slice_index w.judged_counts r) w.history (judged_within config w r sound there) in
    let known = were_reached config w r least.q limits sound there least.there in
    let fewest = slowest.1 least.q least.there in
    omega (arith, count, parts, all, known, fewest)
