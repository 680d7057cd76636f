-- The map of owners of a proxy is like the map of its moves, whichever way it was made.
use Rattle.std.proofs.Common.{◌≡◌, refl, sym, ap, ◌∙◌, subst, ℕ, max, ◌≤◌, List, [], Option, Some, None, arith}
use Rattle.model.specs.declared.moves.Move.{Move}
use Rattle.model.specs.Owners.{owners, trimmed}
use Rattle.model.specs.OwnerMaps.{OwnerMapView, StandsForMoves, AsksAs, DatesInOrder}
use Rattle.model.specs.Finishing.{MayBeMade}
use Rattle.model.proofs.Owners.Maps.{same_left}
use Rattle.model.proofs.Owners.Asking.{standing_asks}
use Rattle.dated_owners.specs.Answers.{KeepsMoves}
use Rattle.proxy_state.specs.Beginning.{MayGain, HasGained}
use Rattle.proxy_state.specs.HeldMaps.{held_map, IsAlike, IsHeld, IsMapOf, IsFilled, IsForgetful}

-- ---- a map that is alike

pub alike_may_gain : (map other : OwnerMapView) (further : List Move) → IsAlike map other → MayGain map further → MayGain other further
alike_may_gain map other further alike may =
    record {
      held = may.held;
      stands = alike.stands may.held may.stands;
      may = subst (λ (r : ℕ). MayBeMade r other.last_date further) (sym alike.resolvers) (subst (λ (d : ℕ). MayBeMade map.resolvers d further) (sym alike.last_date) may.may);
    }

pub alike_gained : (map other after : OwnerMapView) (further : List Move) → IsAlike map other → HasGained other further after → HasGained map further after
alike_gained map other after further alike gained =
    record {
      stands = λ held stands. gained.stands held (alike.stands held stands);
      resolvers = gained.resolvers ∙ alike.resolvers;
      oldest = gained.oldest ∙ alike.oldest;
    }

-- two maps that stand for the same moves, with one oldest version, stand for the same lists of moves
stand_alike : (map other : OwnerMapView) (moves : List Move) → StandsForMoves map moves → StandsForMoves other moves → other.oldest ≡ map.oldest → (more : List Move) → StandsForMoves map more → StandsForMoves other more
stand_alike map other moves stands stands_too oldest more stands_more =
    record {
      in_order = stands_more.in_order;
      last = stands_too.last ∙ sym stands.last ∙ stands_more.last;
      same = λ key.
          same_left other map moves key stands_too stands oldest
          ∙ stands_more.same key
          ∙ ap (λ (n : ℕ). trimmed n (owners more key)) (sym oldest);
    }

-- ---- the map of a list of moves

pub stands_held : (resolvers oldest : ℕ) (moves : List Move) → DatesInOrder 0 moves → StandsForMoves (held_map resolvers oldest moves) moves
stands_held resolvers oldest moves order = record { in_order = order; last = refl; same = λ key. refl }

-- a map that stands for the moves is like their map
pub alike_held : (resolvers oldest : ℕ) (moves : List Move) (map : OwnerMapView) → map.resolvers ≡ resolvers → map.oldest ≡ oldest → StandsForMoves map moves → IsAlike (held_map resolvers oldest moves) map
alike_held resolvers oldest moves map same_resolvers same_oldest stands =
    record {
      stands = stand_alike (held_map resolvers oldest moves) map moves (stands_held resolvers oldest moves stands.in_order) stands same_oldest;
      resolvers = same_resolvers;
      oldest = same_oldest;
      last_date = stands.last;
    }

pub held_some : (resolvers oldest : ℕ) (moves : List Move) (map : OwnerMapView) → 1 ≤ resolvers → resolvers ≤ 64 → map.resolvers ≡ resolvers → map.oldest ≡ oldest → StandsForMoves map moves → IsHeld resolvers oldest moves (Some map)
held_some resolvers oldest moves map some few same_resolvers same_oldest stands =
    record { some = some; few = few; in_order = stands.in_order; alike = alike_held resolvers oldest moves map same_resolvers same_oldest stands }

-- there is a map before any move
pub held_first : (resolvers : ℕ) (moves : List Move) (map : OwnerMapView) → 1 ≤ resolvers → resolvers ≤ 64 → moves ≡ [] → map.resolvers ≡ resolvers → map.oldest ≡ 0 → StandsForMoves map [] → IsHeld resolvers 0 moves (Some map)
held_first resolvers moves map some few none same_resolvers same_oldest stands =
    held_some resolvers 0 moves map some few same_resolvers same_oldest (subst (StandsForMoves map) (sym none) stands)

pub stands_first : (resolvers : ℕ) (moves : List Move) (map : OwnerMapView) → moves ≡ [] → StandsForMoves map [] → StandsForMoves (held_map resolvers 0 moves) []
stands_first resolvers moves map none stands =
    subst (λ (ms : List Move). StandsForMoves (held_map resolvers 0 ms) []) (sym none) (stands_held resolvers 0 [] stands.in_order)

-- it may be used up
pub held_none : (resolvers oldest : ℕ) (moves : List Move) (kept : Option OwnerMapView) → IsHeld resolvers oldest moves kept → IsHeld resolvers oldest moves None
held_none resolvers oldest moves kept held = record { some = held.some; few = held.few; in_order = held.in_order; alike = tt }

-- all moves are made in a new map, which then forgets
pub again_alike : (resolvers oldest : ℕ) (moves : List Move) (new gained after : OwnerMapView) → new.resolvers ≡ resolvers → new.oldest ≡ 0 → StandsForMoves new [] → HasGained new moves gained
    → after.resolvers ≡ gained.resolvers → after.oldest ≡ max gained.oldest oldest → KeepsMoves gained after → IsAlike (held_map resolvers oldest moves) after
again_alike resolvers oldest moves new gained after same_resolvers none stands has resolvers_too raised keeps =
    let same = has.oldest in
    alike_held resolvers oldest moves after (resolvers_too ∙ has.resolvers ∙ same_resolvers) (omega (arith, raised, same, none)) (keeps moves (has.stands [] stands))

-- ---- other moves take the place of those before

pub forgetful_map : (map next : OwnerMapView) (oldest : ℕ) (moves : List Move) (resolvers : ℕ) → next.resolvers ≡ map.resolvers → next.oldest ≡ max map.oldest oldest → KeepsMoves map next → IsMapOf moves resolvers oldest map → IsAlike (held_map resolvers oldest moves) next
forgetful_map map next oldest moves resolvers same raised keeps is =
    let below = is.remembered in
    alike_held resolvers oldest moves next (same ∙ is.resolvers) (omega (arith, raised, below)) (keeps moves is.stands)

pub held_filled : (resolvers before oldest : ℕ) (held moves : List Move) (old kept after : Option OwnerMapView) → IsHeld resolvers before held old → IsFilled (held_map resolvers before held) kept moves oldest → IsForgetful kept oldest after → IsHeld resolvers oldest moves after
held_filled resolvers before oldest held moves old kept after is filled forgets =
    record { some = is.some; few = is.few; in_order = filled.in_order; alike = forgets moves resolvers filled.map_of }

pub stands_filled : (before : OwnerMapView) (kept : Option OwnerMapView) (moves : List Move) (oldest : ℕ) → IsFilled before kept moves oldest → StandsForMoves (held_map before.resolvers oldest moves) moves
stands_filled before kept moves oldest filled = stands_held before.resolvers oldest moves filled.in_order

-- a copy keeps the same
pub held_copy : (resolvers oldest : ℕ) (moves moves_copy : List Move) (kept kept_copy : Option OwnerMapView) → moves_copy ≡ moves → kept_copy ≡ kept → IsHeld resolvers oldest moves kept → IsHeld resolvers oldest moves_copy kept_copy
held_copy resolvers oldest moves moves_copy kept kept_copy same same_kept is = rw (same, same_kept) is

-- ---- a map that proxies share

pub asks_first : (moves : List Move) (map : OwnerMapView) → moves ≡ [] → StandsForMoves map [] → AsksAs map moves
asks_first moves map none stands = subst (AsksAs map) (sym none) (standing_asks map [] stands)
