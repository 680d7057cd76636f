-- The routing that a proxy answers: what it is, and which events change it.
use Rattle.std.proofs.Common.{◌≡◌, refl, sym, ap, ◌∙◌, ℕ, suc, List, [], ◌∷◌, ◌++◌, take, Bool, true, false, nat_le, nat_lt, if◌then◌else◌, slice_get, slice_index, Option, Some, None, arith}
use Rattle.std.proofs.lemmas.List.{take-append-le}
use Rattle.system_keys.specs.Keys.{Range}
use Rattle.model.specs.Configs.{Config, version_limit}
use Rattle.model.specs.Stamps.{AdmittedTransaction}
use Rattle.model.specs.Records.{Record, last_version, records_of_proxy}
use Rattle.model.specs.Shares.{each_below}
use Rattle.model.specs.Metadata.{metadata, routing}
use Rattle.model.specs.World.{World, Event, Sequence, MoveRange, Offer, Finish, Handled, IsSound, next_record, handle_sequence, handle_move, acknowledged, handle_offer, missing_replies, finish_record, handle_finish, handle_event, finished_version}
use Rattle.model.specs.OwnRouting.{RoutingIsOfItsJournal, OnlyItsFinishChangesTheRouting, AFinishBringsItsVersion}
use Rattle.model.proofs.History.Growth.{records_of_proxy-append}
use Rattle.model.proofs.Owners.Moves.{last_version_at}
use Rattle.model.proofs.Worlds.Runs.{journal_kept, finished_within, set_same, set_other, finish_is}

pub routing_is_of_its_journal : RoutingIsOfItsJournal
unfolding metadata
routing_is_of_its_journal config w p = refl

-- ---- the version of a proxy where the event is none of its own

-- both ways of a test keep it
either_kept : (w : World) (p : ℕ) (t : Bool) (first second : Handled) → finished_version first.world p ≡ finished_version w p → finished_version second.world p ≡ finished_version w p → finished_version (if t then first else second).world p ≡ finished_version w p
either_kept w p true first second one other = one
either_kept w p false first second one other = other

kept_by_record : (config : Config) (w : World) (p : ℕ) (rec : Record) (received : List ℕ) → IsSound config w → finished_version (record w { history = w.history ++ rec ∷ []; received = received }) p ≡ finished_version w p
kept_by_record config w p rec received sound =
    ap (λ (rs : List Record). last_version (take (slice_index w.finished p) rs)) (records_of_proxy-append p w.history (rec ∷ []))
    ∙ ap last_version (take-append-le (slice_index w.finished p) (records_of_proxy p w.history) (records_of_proxy p (rec ∷ [])) (finished_within config w p sound))

kept_by_sequence : (config : Config) (w : World) (p q : ℕ) (batch : List AdmittedTransaction) → IsSound config w → finished_version (handle_sequence config w q batch).world p ≡ finished_version w p
kept_by_sequence config w p q batch sound =
    either_kept w p (nat_le config.proxies q) _ _ refl
    (either_kept w p (nat_le version_limit (next_record config w q batch).version) _ _ refl (kept_by_record config w p (next_record config w q batch) (w.received ++ finished_version w q ∷ []) sound))

kept_by_move : (config : Config) (w : World) (p : ℕ) (range : Range) (dest : ℕ) → finished_version (handle_move config w range dest).world p ≡ finished_version w p
kept_by_move config w p range dest = either_kept w p (nat_le config.resolvers dest) _ _ refl refl

kept_by_offer : (config : Config) (w : World) (p row r : ℕ) (found : Option Record) → finished_version (handle_offer config w row r found).world p ≡ finished_version w p
kept_by_offer config w p row r None = refl
kept_by_offer config w p row r (Some rec) =
    either_kept w p (nat_le config.resolvers r) _ _ refl
    (either_kept w p (nat_lt (slice_index w.judged_counts r) rec.row) _ _ refl
    (either_kept w p (nat_lt rec.row (slice_index w.judged_counts r)) _ _ (either_kept w p (nat_le rec.version (acknowledged w (slice_index w.judged_counts r) rec.proxy)) _ _ refl refl) refl))

kept_by_finish : (config : Config) (w : World) (p q : ℕ) (found : Option Record) → (q ≡ p → ⊥) → finished_version (handle_finish config w q found).world p ≡ finished_version w p
kept_by_finish config w p q None apart = refl
kept_by_finish config w p q (Some rec) apart = by (missing_replies w rec.row (each_below config.resolvers))
  where
    by : (waiting : List ℕ) → finished_version (finish_record config w q rec waiting).world p ≡ finished_version w p
    by [] = ap (λ (done : ℕ). last_version (take done (records_of_proxy p w.history))) (set_other w.finished q (suc (slice_index w.finished q)) p (λ same. apart (sym same)))
    by (r ∷ rs) = refl

version_kept : (config : Config) (w : World) (event : Event) (p : ℕ) → IsSound config w → ¬ (event ≡ Finish p) → finished_version (handle_event config w event).world p ≡ finished_version w p
unfolding handle_event
version_kept config w (Sequence q batch) p sound other = kept_by_sequence config w p q batch sound
version_kept config w (MoveRange range dest) p sound other = kept_by_move config w p range dest
version_kept config w (Offer row r) p sound other = kept_by_offer config w p row r (slice_get w.history row)
version_kept config w (Finish q) p sound other =
    either_kept w p (nat_le config.proxies q) _ _ refl (kept_by_finish config w p q (slice_get (records_of_proxy q w.history) (slice_index w.finished q)) (λ same. other (ap (λ (o : ℕ). Finish o) same)))

pub only_its_finish_changes_the_routing : OnlyItsFinishChangesTheRouting
only_its_finish_changes_the_routing config w event p limits sound other =
    let version = version_kept config w event p sound other in
    let rows = journal_kept config w event p limits sound other in
    λ i. routing (version i) (metadata (rows i))

-- ---- the version of a proxy that finishes a record

pub a_finish_brings_its_version : AFinishBringsItsVersion
unfolding routing
a_finish_brings_its_version config w p rec sound there at none =
    ap (λ (h : Handled). finished_version h.world p) (finish_is config w p rec there at none)
    ∙ ap (λ (done : ℕ). last_version (take done (records_of_proxy p w.history))) (set_same w.finished p (suc (slice_index w.finished p)) (omega (arith, there, sound.finished)))
    ∙ last_version_at (records_of_proxy p w.history) (slice_index w.finished p) rec at
