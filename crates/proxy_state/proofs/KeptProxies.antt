-- What the type of a proxy keeps, from the start and from one record to the next.
use Rattle.std.proofs.Common.{◌≡◌, refl, sym, ap, ◌∙◌, subst, ℕ, ◌+◌, ◌-◌, ◌≤◌, max, List, [], ◌∷◌, ◌++◌, map, length, drop, take-append-drop, arith, nat_eq, eq-eqb, true, Option, Some, None, IfSome}
use Rattle.std.specs.List.{AllZip}
use Rattle.model.specs.Configs.{Config}
use Rattle.model.specs.declared.moves.Move.{Move}
use Rattle.model.specs.declared.journal.JournalRow.{JournalRow}
use Rattle.model.specs.Records.{Record, oldest}
use Rattle.model.specs.Shares.{asked}
use Rattle.model.specs.Metadata.{Entries, metadata}
use Rattle.model.specs.OwnerMaps.{OwnerMapView, StandsForMoves, AsksAs, DatesInOrder}
use Rattle.model.specs.Finishing.{ProxyView, MayBegin, MayBeMade}
use Rattle.model.proofs.Owners.Asking.{standing_asks}
use Rattle.proxy_state.specs.declared.begun_record.BegunRecord.{BegunRecord}
use Rattle.proxy_state.specs.Begun.{FollowsOwn, AreBegun, IsKept}
use Rattle.proxy_state.specs.Beginning.{begin_fault, MayGain, HasGained, HasMapFor, AsksFor, IsMapFor, IsKeptFor}
use Rattle.proxy_state.specs.HeldMaps.{IsMapOf, IsFilled, AsksBackTo}

-- ---- at the start, and in a copy

pub kept_start : (config : Config) (owned : OwnerMapView) (begun : List BegunRecord) (journal : List JournalRow) (entries : Entries) → owned.resolvers ≡ config.resolvers → owned.oldest ≡ 0 → begun ≡ [] → journal ≡ [] → entries ≡ [] → IsKept config owned 0 0 begun journal entries
unfolding metadata
kept_start config owned begun journal entries resolvers none no_begun no_journal no_entries =
    record {
      metadata_is = no_entries ∙ ap metadata (sym no_journal);
      chain = subst (AreBegun config 0 0) (sym no_begun) refl;
      resolvers = resolvers;
      remembered = omega (arith, none);
    }

pub kept_copy : (config : Config) (owned other : OwnerMapView) (version last : ℕ) (begun begun_copy : List BegunRecord) (journal journal_copy : List JournalRow) (entries entries_copy : Entries) → IsKept config owned version last begun journal entries → other ≡ owned → begun_copy ≡ begun → journal_copy ≡ journal → entries_copy ≡ entries → IsKept config other version last begun_copy journal_copy entries_copy
kept_copy config owned other version last begun begun_copy journal journal_copy entries entries_copy kept same_owned same_begun same_journal same_entries =
    rw (same_owned, same_begun, same_journal, same_entries) kept

pub clones_same : {X : Type 0} (xs ys : List X) → AllZip (λ x y. y ≡ x) xs ys → ys ≡ xs
clones_same [] [] same = refl
clones_same [] (y ∷ ys) same = absurd same
clones_same (x ∷ xs) [] same = absurd same
clones_same (x ∷ xs) (y ∷ ys) same = λ i. same.0 i ∷ clones_same xs ys same.1 i

-- ---- one record more

pub begun_push : (config : Config) (version last : ℕ) (begun : List BegunRecord) (next : BegunRecord) → AreBegun config version last begun → FollowsOwn config last next.rec → next.asked ≡ map (asked config next.rec) next.rec.batch → AreBegun config version next.rec.version (begun ++ next ∷ [])
begun_push config version last [] next same follows asking = (subst (λ (v : ℕ). FollowsOwn config v next.rec) same follows, asking, refl)
begun_push config version last (x ∷ begun) next chain follows asking = (chain.0, chain.1, begun_push config x.rec.version last begun next chain.2 follows asking)

pub kept_begin : (config : Config) (owned after : OwnerMapView) (version last : ℕ) (begun : List BegunRecord) (next : BegunRecord) (journal : List JournalRow) (entries : Entries) → IsKept config owned version last begun journal entries → FollowsOwn config last next.rec → next.asked ≡ map (asked config next.rec) next.rec.batch → IsMapFor config next.rec after → IsKept config after version next.rec.version (begun ++ next ∷ []) journal entries
kept_begin config owned after version last begun next journal entries kept follows asking is =
    let old = is.oldest in
    let step = follows.step in
    record {
      metadata_is = kept.metadata_is;
      chain = begun_push config version last begun next kept.chain follows asking;
      resolvers = is.resolvers;
      remembered = omega (arith, old, step);
    }

pub kept_begun : (config : Config) (owned after : OwnerMapView) (version last new_version : ℕ) (begun grown : List BegunRecord) (next : BegunRecord) (rec : Record) (lists : List (List ℕ)) (journal : List JournalRow) (entries : Entries)
    → IsKept config owned version last begun journal entries → rec.own_previous ≡ last → rec.own_previous ≤ rec.previous → rec.version ≡ rec.previous + config.step → next.rec ≡ rec → next.asked ≡ lists
    → lists ≡ map (asked config rec) rec.batch → IsMapFor config rec after → grown ≡ begun ++ next ∷ [] → new_version ≡ rec.version
    → IsKept config after version new_version grown journal entries
kept_begun config owned after version last new_version begun grown next rec lists journal entries kept own below step same asking asked_is is pushed dated =
    let follows : FollowsOwn config last rec = record { own_previous = own; previous = omega (arith, own, below); step = step } in
    let next_asked : next.asked ≡ map (asked config next.rec) next.rec.batch = asking ∙ asked_is ∙ ap (λ (r : Record). map (asked config r) r.batch) (sym same) in
    subst (λ (v : ℕ). IsKept config after version v grown journal entries) (ap (λ (r : Record). r.version) same ∙ sym dated)
    (subst (λ (list : List BegunRecord). IsKept config after version next.rec.version list journal entries) (sym pushed)
    (kept_begin config owned after version last begun next journal entries kept (subst (FollowsOwn config last) (sym same) follows) next_asked (subst (λ (r : Record). IsMapFor config r after) (sym same) is)))

-- ---- the moves of a record that may begin

pub may_gain : (v : ProxyView) (rec : Record) → v.owned.resolvers ≡ v.config.resolvers → MayBegin v rec → MayGain v.owned (drop v.moved rec.moves)
may_gain v rec resolvers may =
    record {
      held = may.moves;
      stands = may.holds.stands;
      may = subst (λ (n : ℕ). MayBeMade v.owned.resolvers v.owned.last_date (drop n rec.moves)) (sym may.holds.count) (subst (λ (r : ℕ). MayBeMade r v.owned.last_date (drop (length may.moves) rec.moves)) (sym resolvers) may.further_moves);
    }

pub all_moves : (v : ProxyView) (rec : Record) (after : OwnerMapView) → MayBegin v rec → HasGained v.owned (drop v.moved rec.moves) after → StandsForMoves after rec.moves
all_moves v rec after may gained =
    let moves : may.moves ++ drop v.moved rec.moves ≡ rec.moves =
    ap (λ (n : ℕ). may.moves ++ drop n rec.moves) may.holds.count ∙ ap (λ (ms : List Move). ms ++ drop (length may.moves) rec.moves) (sym may.kept_moves) ∙ take-append-drop (length may.moves) rec.moves in
    subst (StandsForMoves after) moves (gained.stands may.moves may.holds.stands)

-- the map that gained the further moves is one for the record
pub has_map : (v : ProxyView) (rec : Record) (after : OwnerMapView) → v.owned.resolvers ≡ v.config.resolvers → v.owned.oldest ≤ v.last_begun - v.config.window → rec.own_previous ≡ v.last_begun → MayBegin v rec → HasGained v.owned (drop v.moved rec.moves) after → HasMapFor v.config rec after
has_map v rec after resolvers remembered own may gained =
    let before : after.oldest ≡ v.owned.oldest = gained.oldest in
    let below : rec.own_previous ≤ rec.previous = may.own in
    record {
      stands = all_moves v rec after may gained;
      resolvers = gained.resolvers ∙ resolvers;
      remembered = omega (arith, before, below, own, remembered);
    }

-- the moves of the record and their map are kept by a proxy with this map
pub kept_for : (config before : Config) (rec : Record) (owned : OwnerMapView) (kept : Option OwnerMapView) (moves : List Move) → before ≡ config → IfSome kept (HasMapFor before rec) → moves ≡ rec.moves → DatesInOrder 0 rec.moves → owned.resolvers ≡ config.resolvers → IsKeptFor config rec owned kept moves
kept_for config before rec owned kept moves same has moves_are in_order resolvers =
    record { map_for = subst (λ (numbers : Config). IfSome kept (HasMapFor numbers rec)) same has; moves_are = moves_are; in_order = in_order; resolvers = resolvers }

-- they may take the place of those before
pub filled_for : (config : Config) (rec : Record) (owned : OwnerMapView) (kept : Option OwnerMapView) (moves : List Move) (n : ℕ) → IsKeptFor config rec owned kept moves → n ≡ oldest config rec → IsFilled owned kept moves n
filled_for config rec owned kept moves n is same =
    record { in_order = subst (DatesInOrder 0) (sym is.moves_are) is.in_order; map_of = by kept is.map_for }
  where
    by : (o : Option OwnerMapView) → IfSome o (HasMapFor config rec) → IfSome o (IsMapOf moves owned.resolvers n)
    by None has = tt
    by (Some map) has =
        let remembered = has.remembered in
        record {
          stands = subst (StandsForMoves map) (sym is.moves_are) has.stands;
          resolvers = has.resolvers ∙ sym is.resolvers;
          remembered = omega (arith, remembered, same);
        }

-- and then the proxy has the map for the record
pub map_for : (config : Config) (rec : Record) (owned after : OwnerMapView) (kept : Option OwnerMapView) (moves : List Move) → IsKeptFor config rec owned kept moves → after.resolvers ≡ owned.resolvers → after.oldest ≡ oldest config rec → StandsForMoves after moves → IsMapFor config rec after
map_for config rec owned after kept moves is same raised stands =
    record { stands = subst (StandsForMoves after) is.moves_are stands; resolvers = same ∙ is.resolvers; oldest = raised }

-- ---- whom the record asks

-- a map that proxies share asks for the record
pub shared_asks : (config : Config) (rec : Record) (moves : List Move) (n : ℕ) (map : OwnerMapView) → moves ≡ rec.moves → n ≡ oldest config rec → AsksBackTo moves config.resolvers n map → AsksFor config rec map
shared_asks config rec moves n map same oldest_is is =
    let remembered = is.remembered in
    record { asks = subst (AsksAs map) same is.asks; resolvers = is.resolvers; remembered = omega (arith, remembered, oldest_is) }

-- and so does one that stands for its moves
pub own_asks : (config : Config) (rec : Record) (map : OwnerMapView) → HasMapFor config rec map → AsksFor config rec map
own_asks config rec map has = record { asks = standing_asks map rec.moves has.stands; resolvers = has.resolvers; remembered = has.remembered }

pub in_order_for : (config : Config) (rec : Record) (map : OwnerMapView) → AsksFor config rec map → DatesInOrder 0 rec.moves
in_order_for config rec map asks = asks.asks.in_order

pub in_order_own : (config : Config) (rec : Record) (map : OwnerMapView) → HasMapFor config rec map → DatesInOrder 0 rec.moves
in_order_own config rec map has = has.stands.in_order

-- ---- the requests by a map that remembers further back

pub greatest : (config : Config) (rec : Record) (map_of : OwnerMapView) → AsksFor config rec map_of → max map_of.oldest (oldest config rec) ≡ oldest config rec
greatest config rec map_of asks = let remembered = asks.remembered in omega (arith, remembered)

-- a record of the proxy whose own previous version is that of the record begun last has no fault
pub no_fault : (v : ProxyView) (rec : Record) → rec.proxy ≡ v.number → rec.own_previous ≡ v.last_begun → begin_fault v rec ≡ None
no_fault v rec same own =
    let mine : nat_eq rec.proxy v.number ≡ true = eq-eqb rec.proxy v.number same in
    let order : nat_eq rec.own_previous v.last_begun ≡ true = eq-eqb rec.own_previous v.last_begun own in
    rw (mine, order) refl
