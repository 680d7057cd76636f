-- The resolvers that are asked about the ranges of a transaction, as lists; and what these lists
-- give each resolver.
use Rattle.std.specs.Prelude.{◌≡◌, ℕ, suc, max, length, map, filter, not, ◌||◌, ◌&&◌, ◌==◌, nat_eq}
use Rattle.std.specs.Prelude.{List, [], ◌∷◌, ◌++◌, Bool, if◌then◌else◌}
use Rattle.std.specs.List.{list_any}
use Rattle.system_keys.specs.Keys.{Range, only}
use Rattle.model.specs.declared.moves.Move.{Move}
use Rattle.model.specs.declared.part.Part.{Part}
use Rattle.model.specs.declared.unseen.StateMark.{StateMark}
use Rattle.model.specs.Transactions.{StampedTransaction, is_state_transaction, locked_key, lock_read}
use Rattle.model.specs.Records.{Record}
use Rattle.model.specs.Shares.{each_below}
use Rattle.model.specs.Journal.{carried_to}
use Rattle.model.specs.Requests.{Request}
use Rattle.model.specs.OwnerMaps.{OwnerMapView, AsksAs, readers, writers}
use Rattle.request_builder.specs.declared.asked_resolvers.AskedResolvers.{AskedResolvers}

-- ---- whom a map asks

-- the lists of those that read the ranges, and of those that write them
abbrev pub reader_lists : OwnerMapView → List Move → (snapshot : ℕ) → List Range → List (List ℕ)
reader_lists map_of moves snapshot ranges =
    let bound = max snapshot map_of.oldest in
    map (λ (range : Range). readers map_of.resolvers moves bound range) ranges

abbrev pub writer_lists : OwnerMapView → List Move → List Range → List (List ℕ)
writer_lists map_of moves ranges =
    map (λ (range : Range). writers map_of.resolvers moves range) ranges

-- whom the map asks about a transaction, by these moves
abbrev pub asked_resolvers_of : OwnerMapView → List Move → StampedTransaction → AskedResolvers
asked_resolvers_of map_of moves t =
    let is_state = is_state_transaction t in
    record {
      is_state = is_state;
      reads = reader_lists map_of moves t.snapshot t.reads;
      lock = reader_lists map_of moves t.snapshot (lock_read (is_state && not t.lock_aware));
      writes = writer_lists map_of moves t.writes;
    }

-- the map, in which owners count back to this version or to its own oldest one, whichever is later
abbrev pub back_to : (oldest : ℕ) → OwnerMapView → OwnerMapView
back_to oldest map_of = record map_of { oldest = max map_of.oldest oldest }

-- whichever moves the map asks as, these read the range
abbrev pub AreReadersBackTo :
    (oldest : ℕ) → OwnerMapView → Range → (snapshot : ℕ) → List ℕ → Type 0
AreReadersBackTo oldest map_of range snapshot list =
    (moves : List Move) → AsksAs map_of moves
    → list ≡ readers map_of.resolvers moves (max snapshot (max map_of.oldest oldest)) range

-- and these are the lists of those that read the ranges
abbrev pub AreReaderLists :
    (oldest : ℕ) → OwnerMapView → (snapshot : ℕ) → List Range → List (List ℕ) → Type 0
AreReaderLists oldest map_of snapshot ranges lists =
    (moves : List Move) → AsksAs map_of moves
    → lists ≡ reader_lists (back_to oldest map_of) moves snapshot ranges

-- and of those that write them
abbrev pub AreWriterLists : OwnerMapView → List Range → List (List ℕ) → Type 0
AreWriterLists map_of ranges lists =
    (moves : List Move) → AsksAs map_of moves → lists ≡ writer_lists map_of moves ranges

-- these are whom it asks about a transaction
abbrev pub AreAskedResolvers :
    (oldest : ℕ) → OwnerMapView → StampedTransaction → AskedResolvers → Type 0
AreAskedResolvers oldest map_of t asking =
    (moves : List Move) → AsksAs map_of moves
    → asking ≡ asked_resolvers_of (back_to oldest map_of) moves t

-- and about each transaction of a batch
abbrev pub AreAllAskedResolvers :
    (oldest : ℕ) → OwnerMapView → List StampedTransaction → List AskedResolvers → Type 0
AreAllAskedResolvers oldest map_of batch askings =
    (moves : List Move) → AsksAs map_of moves
    → askings ≡ map (asked_resolvers_of (back_to oldest map_of) moves) batch

-- ---- what a resolver gets by such lists

-- the resolver is in the list
abbrev pub is_in : (r : ℕ) → List ℕ → Bool
is_in r list = list_any (λ a. nat_eq a r) list

-- the resolver is in one of the lists
abbrev pub is_in_some : (r : ℕ) → List (List ℕ) → Bool
is_in_some r lists = list_any (is_in r) lists

-- the ranges whose lists have the resolver
abbrev pub ranges_for : (r : ℕ) → List Range → List (List ℕ) → List Range
ranges_for r [] lists = []
ranges_for r (range ∷ ranges) [] = []
ranges_for r (range ∷ ranges) (list ∷ lists) =
    (if is_in r list then range ∷ [] else []) ++ ranges_for r ranges lists

-- the part of transaction t, number n of the batch
abbrev pub part_for : (r n : ℕ) → StampedTransaction → AskedResolvers → Part
part_for r n t asking =
    record {
      number = n;
      snapshot = t.snapshot;
      reads = ranges_for r t.reads asking.reads ++ ranges_for r (only locked_key ∷ []) asking.lock;
      writes = ranges_for r t.writes asking.writes;
    }

-- a part is sent if it has a range, or if its transaction is a state transaction
abbrev pub is_part_sent : (is_state : Bool) → Part → Bool
is_part_sent is_state part =
    is_state || (not (length part.reads == 0) || not (length part.writes == 0))

abbrev pub sent_part : (is_state : Bool) → Part → List Part
sent_part is_state part = if is_part_sent is_state part then part ∷ [] else []

-- the parts of these transactions, numbered from n
abbrev pub parts_for : (r n : ℕ) → List StampedTransaction → List AskedResolvers → List Part
parts_for r n [] askings = []
parts_for r n (t ∷ ts) [] = []
parts_for r n (t ∷ ts) (asking ∷ askings) =
    sent_part asking.is_state (part_for r n t asking) ++ parts_for r (suc n) ts askings

-- the mark of a transaction, if it is a state transaction
abbrev pub mark_by : (r n : ℕ) → StampedTransaction → AskedResolvers → List StateMark
mark_by r n t asking =
    if asking.is_state then record { number = n; carried = carried_to r t } ∷ [] else []

-- the marks of these transactions, numbered from n
abbrev pub marks_for : (r n : ℕ) → List StampedTransaction → List AskedResolvers → List StateMark
marks_for r n [] askings = []
marks_for r n (t ∷ ts) [] = []
marks_for r n (t ∷ ts) (asking ∷ askings) =
    mark_by r n t asking ++ marks_for r (suc n) ts askings

-- the request to resolver r
abbrev pub request_for_resolver : Record → (last_received : ℕ) → List AskedResolvers → (r : ℕ) → Request
request_for_resolver rec last_received askings r =
    record {
      resolver = r;
      proxy = rec.proxy;
      row = rec.row;
      previous = rec.previous;
      version = rec.version;
      last_received = last_received;
      share = parts_for r 0 rec.batch askings;
      states = marks_for r 0 rec.batch askings;
    }

-- ---- the resolvers that get a part

-- the resolver is asked about some range of the transaction
abbrev pub is_asked_about : AskedResolvers → (r : ℕ) → Bool
is_asked_about asking r =
    is_in_some r asking.reads || (is_in_some r asking.lock || is_in_some r asking.writes)

-- the resolver gets a part of the transaction
abbrev pub is_asked_by : AskedResolvers → (r : ℕ) → Bool
is_asked_by asking r = asking.is_state || is_asked_about asking r

-- the resolvers that get a part of the transaction, in rising order
abbrev pub asked_by : (resolvers : ℕ) → AskedResolvers → List ℕ
asked_by resolvers asking = filter (is_asked_by asking) (each_below resolvers)
