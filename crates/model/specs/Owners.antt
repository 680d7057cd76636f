-- Which resolver owned a key from which version on, and which resolvers a range is sent to.
-- Release 7.1, `CommitProxyServer.actor.cpp`, ResolutionRequestBuilder, and the proxy's map of keys
-- to resolvers; what differs is marked *profile*.
use Rattle.std.specs.Prelude.{List, [], ◌∷◌, Bool, false, if◌then◌else◌, ◌&&◌, ◌||◌, not}
use Rattle.std.specs.Prelude.{nat_eq, nat_lt, IsTrue}
use Rattle.std.specs.List.{list_any, list_all}
use Rattle.system_keys.specs.Keys.{Key, Range, holds}
use Rattle.model.specs.Numbers.{Version, ResolverNumber}
use Rattle.model.specs.VersionOrder.{NeverDecrease}
use Rattle.model.specs.declared.moves.Move.{Move}

-- a resolver, and the version from which on it owned a key
pub record Owner : Type 0 where
  pub date : Version
  pub resolver : ResolverNumber

-- The owners that these moves added for a key, oldest first. Each move whose range holds the key
-- adds its destination, from the move's date on.
abbrev pub later_owners : List Move → Key → List Owner
later_owners [] key = []
later_owners (m ∷ moves) key =
    if holds m.range key
    then record { date = m.date; resolver = m.dest } ∷ later_owners moves key
    else later_owners moves key

-- all owners that a key has had, oldest first: resolver 0 from version 0 on, and then those that
-- the moves added
abbrev pub owners : List Move → Key → List Owner
owners moves key = record { date = 0; resolver = 0 } ∷ later_owners moves key

-- the resolver is the last owner of the list
abbrev pub is_last : ResolverNumber → List Owner → Bool
is_last r [] = false
is_last r (o ∷ []) = nat_eq o.resolver r
is_last r (o ∷ p ∷ later) = is_last r (p ∷ later)

-- no owner of the list has a date below the bound
abbrev pub none_dated_below : (bound : Version) → List Owner → Bool
none_dated_below bound later = list_all (λ (o : Owner). not (nat_lt o.date bound)) later

-- The walk goes from the newest owner to the oldest, takes each, and stops after the first whose
-- date is below the bound. It visits resolver r if r is one of the owners that it takes
-- (*profile*).
abbrev pub walk_visits : (bound : Version) (r : ResolverNumber) → List Owner → Bool
walk_visits bound r [] = false
walk_visits bound r (o ∷ later) =
    (nat_eq o.resolver r && none_dated_below bound later) || walk_visits bound r later

-- resolver r gets the range as a write: it is the last owner of some key of the range
pub record AsksWrite (moves : List Move) (r : ResolverNumber) (range : Range) : Type 0 where
  pub key : Key
  pub inside : IsTrue (holds range key)
  pub owns : IsTrue (is_last r (owners moves key))

-- Resolver r gets the range as a read, back to the bound: the walk over the owners of some key of
-- the range visits r (*profile*).
pub record AsksRead (moves : List Move) (bound : Version) (r : ResolverNumber) (range : Range) :
    Type 0 where
  pub key : Key
  pub inside : IsTrue (holds range key)
  pub met : IsTrue (walk_visits bound r (owners moves key))

-- the keys at which the list of owners can change: both ends of each move
abbrev pub move_ends : List Move → List Key
move_ends [] = []
move_ends (m ∷ moves) = m.range.begin ∷ m.range.end ∷ move_ends moves

-- The owners of some key of the range pass the test. It is enough to try the begin of the range,
-- and the ends of moves that lie in it.
abbrev pub some_key : List Move → (List Owner → Bool) → Range → Bool
some_key moves test range =
    let passes = λ (key : Key). holds range key && test (owners moves key) in
    list_any passes (range.begin ∷ move_ends moves)

-- the test of `AsksWrite`
abbrev pub asks_write : List Move → ResolverNumber → Range → Bool
asks_write moves r range = some_key moves (is_last r) range

-- the test of `AsksRead`
abbrev pub asks_read : List Move → (bound : Version) (r : ResolverNumber) → Range → Bool
asks_read moves bound r range = some_key moves (walk_visits bound r) range

-- the resolvers that a walk takes if it starts at the first element of the list, takes each owner,
-- and stops after the first whose date is below the bound
abbrev pub walk : (bound : Version) → List Owner → List ResolverNumber
walk bound [] = []
walk bound (o ∷ rest) = o.resolver ∷ (if nat_lt o.date bound then [] else walk bound rest)

-- The list without the owners that no walk needs: the first owner is dropped while the second one's
-- date is below `oldest`. *Profile*: release 7.1 drops such owners only from time to time.
abbrev pub trimmed : (oldest : Version) → List Owner → List Owner
trimmed oldest [] = []
trimmed oldest (o ∷ []) = o ∷ []
trimmed oldest (o ∷ p ∷ later) =
    if nat_lt p.date oldest then trimmed oldest (p ∷ later) else o ∷ p ∷ later

-- the dates of the list never decrease, and the first is at least `date`
abbrev pub DatesNeverDecrease : (date : Version) → List Owner → Type 0
DatesNeverDecrease date owners = NeverDecrease (λ (o : Owner). o.date) date owners
