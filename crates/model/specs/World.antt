-- The cluster as a world of events: a history, the moves so far, and how far each resolver and each
-- proxy has come. Release 7.1: a batch gets its version, `masterserver.actor.cpp`, getVersion; a
-- request comes to a resolver, `Resolver.actor.cpp`, resolveBatch; a proxy finishes a batch,
-- `CommitProxyServer.actor.cpp`, applyMetadataEffect and assignMutationsToStorageServers. What
-- differs is marked *profile*.
use Rattle.std.specs.Prelude.{◌≡◌, ℕ, suc, ◌+◌, ◌<◌, ◌≤◌, max, List, [], ◌∷◌, ◌++◌, length, take}
use Rattle.std.specs.Prelude.{replicate, filter, nat_eq, nat_lt, nat_le, if◌then◌else◌, slice_get}
use Rattle.std.specs.Prelude.{slice_index, slice_set, Option, Some, None}
use Rattle.system_keys.specs.declared.change.Change.{Change}
use Rattle.system_keys.specs.Keys.{Range}
use Rattle.model.specs.Numbers.{Version, ResolverNumber, ProxyNumber, RowNumber, TransactionNumber}
use Rattle.model.specs.Configs.{Config, version_limit}
use Rattle.model.specs.declared.moves.Move.{Move}
use Rattle.model.specs.declared.journal.JournalRow.{JournalRow}
use Rattle.model.specs.declared.routing.Routing.{Routing}
use Rattle.model.specs.declared.verdict.Verdict.{Verdict}
use Rattle.model.specs.declared.reply.Reply.{Reply}
use Rattle.model.specs.declared.outcome.Outcome.{Outcome}
use Rattle.model.specs.declared.outcome.Outcome.TheVariants as outcomes
use Rattle.model.specs.declared.outcome.Tagged.{Tagged}
use Rattle.model.specs.declared.outcome.Finished.{Finished}
use Rattle.model.specs.Stamps.{AdmittedTransaction, stamped_from}
use Rattle.model.specs.Transactions.{StampedTransaction}
use Rattle.model.specs.Records.{Record, MovesFollow, last_version, records_of_proxy}
use Rattle.model.specs.Shares.{each_below}
use Rattle.model.specs.Verdicts.{share_verdicts}
use Rattle.model.specs.Metadata.{Entries, metadata, tags, routing}
use Rattle.model.specs.PrivateCopies.{private_copy}
use Rattle.model.specs.Journal.{VerdictSource, history_verdicts, journal_row, journal, unseen}
use Rattle.model.specs.Journal.{remembered}
use Rattle.model.specs.Outcomes.{outcomes_after}

-- The history and the moves so far. `received` has for each record the version of the last record
-- that its proxy had finished. `judged_counts` has for each resolver the number of rows that it has
-- judged. `finished` has for each proxy the number of its records that are finished. *Profile*: all
-- of it.
pub record World : Type 0 where
  pub history : List Record
  pub moves : List Move
  pub received : List Version
  pub judged_counts : List ℕ
  pub finished : List ℕ

-- An event: a proxy's batch gets its record, a range moves to a resolver, a resolver gets the
-- request for a row, or a proxy finishes its earliest unfinished record.
pub data Event : Type 0 where
  Sequence : (proxy : ProxyNumber) (batch : List AdmittedTransaction) → Event
  MoveRange : (range : Range) (dest : ResolverNumber) → Event
  Offer : (row : RowNumber) (resolver : ResolverNumber) → Event
  Finish : (proxy : ProxyNumber) → Event

-- Why an event is refused. An early request comes back with the version of the last row judged, 0
-- if there is none. A request is given up if its proxy has already acknowledged the reply. This
-- world returns `OutOfTurn None` if the proxy has no unfinished record; the row is for callers that
-- name the row that they finish.
pub data Refusal : Type 0 where
  NoSuchResolver : Refusal
  Early : (version : Version) → Refusal
  GivenUp : (acknowledged : Version) → Refusal
  NoSuchProxy : Refusal
  WrongResolver : Refusal
  NoSuchRow : Refusal
  OutOfTurn : (expected : Option RowNumber) → Refusal
  MissingReply : (resolver : ResolverNumber) → Refusal
  VersionsEnd : Refusal

-- the answer to an event
pub data Answer : Type 0 where
  Sequenced : (row : RowNumber) (version : Version) → Answer
  Moved : (date : Version) → Answer
  Judged : (reply : Reply) → Answer
  Again : (reply : Reply) → Answer
  FinishedBatch : (finished : Finished) → Answer
  Refused : (refusal : Refusal) → Answer

-- the world after an event, and the answer to the event
pub record Handled : Type 0 where
  pub world : World
  pub answer : Answer

-- the world before the first event
abbrev pub initial_world : Config → World
initial_world config =
    record {
      history = [];
      moves = [];
      received = [];
      judged_counts = replicate config.resolvers 0;
      finished = replicate config.proxies 0;
    }

-- a refused event leaves the world unchanged
abbrev pub refuse : World → Refusal → Handled
refuse w why = record { world = w; answer = Refused why }

-- ---- a batch gets its record

-- the version of the last record that proxy p finished, or 0
abbrev pub finished_version : World → (p : ProxyNumber) → Version
finished_version w p =
    last_version (take (slice_index w.finished p) (records_of_proxy p w.history))

-- The record that the next batch gets after these records, with all moves so far.
-- *Profile*: its version is one step after the last.
abbrev pub record_after :
    Config → List Record → List Move → (p : ProxyNumber) → List AdmittedTransaction → Record
record_after config records moves p batch =
    let previous = last_version records in
    record {
      row = length records;
      previous = previous;
      version = previous + config.step;
      own_previous = last_version (records_of_proxy p records);
      proxy = p;
      moves = moves;
      batch = stamped_from (previous + config.step) 0 batch;
    }

-- the record that the next batch gets in a world
abbrev pub next_record : Config → World → (p : ProxyNumber) → List AdmittedTransaction → Record
next_record config w p batch = record_after config w.history w.moves p batch

-- A batch gets the next record. *Profile*: it is refused first if the cluster has no such proxy,
-- and then if the version reaches the limit.
abbrev pub handle_sequence : Config → World → (p : ProxyNumber) → List AdmittedTransaction → Handled
handle_sequence config w p batch =
    let rec = next_record config w p batch in
    let received = w.received ++ finished_version w p ∷ [] in
    let world : World = record w { history = w.history ++ rec ∷ []; received = received } in
    if nat_le config.proxies p then refuse w NoSuchProxy
    else if nat_le version_limit rec.version then refuse w VersionsEnd
    else record { world = world; answer = Sequenced rec.row rec.version }

-- ---- a range moves

-- A range moves to a resolver, from the version after the last one given out.
-- *Profile*: the move is refused if the cluster has no such resolver.
abbrev pub handle_move : Config → World → Range → (dest : ResolverNumber) → Handled
handle_move config w range dest =
    let date = last_version w.history + 1 in
    let move : Move = record { range = range; date = date; dest = dest } in
    if nat_le config.resolvers dest then refuse w NoSuchResolver
    else record { world = record w { moves = w.moves ++ move ∷ [] }; answer = Moved date }

-- ---- a resolver gets a request

-- the reply of resolver r to a record, after the records before it: these verdicts on its share,
-- and the rows that the proxy has not seen
abbrev pub reply_with :
    (verdicts : List Verdict) → VerdictSource → ResolverNumber
    → (before : List Record) (rec : Record) → Reply
reply_with verdicts verdict_by r before rec =
    record {
      resolver = r;
      proxy = rec.proxy;
      row = rec.row;
      version = rec.version;
      verdicts = verdicts;
      unseen = unseen verdict_by r before rec;
    }

-- the reply of resolver r to a record, with its verdicts
abbrev pub reply_of :
    Config → VerdictSource → ResolverNumber → (before : List Record) (rec : Record) → Reply
reply_of config verdict_by r before rec =
    reply_with (share_verdicts config r before rec) verdict_by r before rec

-- the greatest number of a list, or 0 if the list is empty
abbrev pub greatest : List ℕ → ℕ
greatest [] = 0
greatest (n ∷ ns) = max n (greatest ns)

-- of a list with a version for each record, those of the records of proxy p
abbrev pub received_of :
    (p : ProxyNumber) → List Record → (received : List Version) → List Version
received_of p [] ns = []
received_of p (rec ∷ rest) [] = []
received_of p (rec ∷ rest) (n ∷ ns) =
    if nat_eq rec.proxy p then n ∷ received_of p rest ns else received_of p rest ns

-- The version that proxy p has acknowledged to a resolver that judged this many rows: the greatest
-- that it had received. This is the definition, over records; `acknowledged_requests`, over
-- requests, follows it by `acknowledged_version_law`.
abbrev pub acknowledged : World → (judged_count : ℕ) (p : ProxyNumber) → Version
acknowledged w judged_count p =
    greatest (received_of p (take judged_count w.history) w.received)

-- A request for a row that the resolver has already judged gets the same reply again, until the
-- proxy has acknowledged the reply. *Profile*: after that the request is refused.
abbrev pub handle_repeat : World → Reply → (received : Version) → Handled
handle_repeat w reply received =
    if nat_le reply.version received then refuse w (GivenUp received)
    else record { world = w; answer = Again reply }

-- The request for a row comes to a resolver that has judged `judged_count` rows: again, in its
-- turn, or too early. *Profile*: an early request is refused with the version of the last row
-- judged, 0 if there is none. Release 7.1 holds it back.
abbrev pub handle_offer_at : World → (judged_count : ℕ) (r : ResolverNumber) → Reply → Handled
handle_offer_at w judged_count r reply =
    let last_judged = last_version (take judged_count w.history) in
    let counts = slice_set w.judged_counts r (suc judged_count) in
    if nat_lt judged_count reply.row then refuse w (Early last_judged)
    else if nat_lt reply.row judged_count
    then handle_repeat w reply (acknowledged w judged_count reply.proxy)
    else record { world = record w { judged_counts = counts }; answer = Judged reply }

-- The request for a row comes to resolver r. The last argument is the row's record. *Profile*: the
-- request is refused first if there is no such row, and then if the cluster has no such resolver.
abbrev pub handle_offer :
    Config → World → (row : RowNumber) (r : ResolverNumber) → Option Record → Handled
handle_offer config w row r None = refuse w NoSuchRow
handle_offer config w row r (Some rec) =
    let verdict_by = history_verdicts config w.history in
    let reply = reply_of config verdict_by r (take row w.history) rec in
    if nat_le config.resolvers r then refuse w WrongResolver
    else handle_offer_at w (slice_index w.judged_counts r) r reply

-- ---- a proxy finishes a record

-- the mutations of transaction `number`, from place n on, each with its tags and its private copy by
-- these entries
abbrev pub tagged_from :
    Entries → (number : TransactionNumber) (n : ℕ) → List Change → List Tagged
tagged_from entries number n [] = []
tagged_from entries number n (change ∷ changes) =
    record {
      number = number;
      place = n;
      change = change;
      tags = tags entries change;
      private = private_copy entries change;
    }
    ∷ tagged_from entries number (suc n) changes

-- the mutation has the tags and the private copy that these entries give its change
pub record IsTaggedBy (entries : Entries) (mutation : Tagged) : Type 0 where
  pub tags : mutation.tags ≡ tags entries mutation.change
  pub private : mutation.private ≡ private_copy entries mutation.change

-- the tagged mutations of a transaction, state mutations too, if it is committed; otherwise none
abbrev pub tagged_one : Entries → StampedTransaction → Outcome → List Tagged
tagged_one entries t (outcomes.Committed version number) = tagged_from entries number 0 t.changes
tagged_one entries t outcomes.Conflict = []
tagged_one entries t outcomes.TooOld = []
tagged_one entries t outcomes.Locked = []

-- the tagged mutations of a batch with these outcomes, in order
abbrev pub tagged_all : Entries → List StampedTransaction → List Outcome → List Tagged
tagged_all entries [] outcomes = []
tagged_all entries (t ∷ ts) [] = []
tagged_all entries (t ∷ ts) (outcome ∷ outcomes) =
    tagged_one entries t outcome ++ tagged_all entries ts outcomes

-- A finished record, after a journal of the records before it: its outcomes, and its mutations with
-- their tags and their private copies by the metadata after the whole batch.
unfoldable pub finished_after :
    Config → VerdictSource → (journal_before : List JournalRow) (rec : Record) → Finished
finished_after config verdict_by journal_before rec =
    let results = outcomes_after config verdict_by journal_before rec in
    let journal_now = journal_before ++ journal_row config verdict_by rec ∷ [] in
    record {
      row = rec.row;
      version = rec.version;
      outcomes = results;
      tagged = tagged_all (metadata journal_now) rec.batch results;
    }

-- a finished record, after the records before it
abbrev pub finished_batch :
    Config → VerdictSource → (before : List Record) (rec : Record) → Finished
finished_batch config verdict_by before rec =
    finished_after config verdict_by (journal config verdict_by before) rec

-- of some resolvers, those that have not judged the row, so that the proxy lacks their replies
abbrev pub missing_replies :
    World → (row : RowNumber) (rs : List ResolverNumber) → List ResolverNumber
missing_replies w row rs =
    filter (λ (r : ResolverNumber). nat_le (slice_index w.judged_counts r) row) rs

-- A proxy finishes a record, unless the replies of these resolvers are missing.
-- *Profile*: the refusal names the first of them.
abbrev pub finish_record :
    Config → World → ProxyNumber → Record → (missing : List ResolverNumber) → Handled
finish_record config w p rec (r ∷ rs) = refuse w (MissingReply r)
finish_record config w p rec [] =
    let finished = slice_set w.finished p (suc (slice_index w.finished p)) in
    let verdict_by = history_verdicts config w.history in
    record {
      world = record w { finished = finished };
      answer = FinishedBatch (finished_batch config verdict_by (take rec.row w.history) rec);
    }

-- A proxy finishes its earliest unfinished record, once every resolver has judged it. The last
-- argument is that record. *Profile*: if it is None, the finish is out of turn.
abbrev pub handle_finish : Config → World → ProxyNumber → Option Record → Handled
handle_finish config w p None = refuse w (OutOfTurn None)
handle_finish config w p (Some rec) =
    finish_record config w p rec (missing_replies w rec.row (each_below config.resolvers))

-- ---- all events

-- the world after an event, and the answer to the event
unfoldable pub handle_event : Config → World → Event → Handled
handle_event config w (Sequence p batch) = handle_sequence config w p batch
handle_event config w (MoveRange range dest) = handle_move config w range dest
handle_event config w (Offer row r) = handle_offer config w row r (slice_get w.history row)
handle_event config w (Finish p) =
    let next = slice_get (records_of_proxy p w.history) (slice_index w.finished p) in
    if nat_le config.proxies p then refuse w NoSuchProxy else handle_finish config w p next

-- the answers to a list of events, in order
unfoldable pub answers : Config → World → List Event → List Answer
answers config w [] = []
answers config w (event ∷ events) =
    let handled = handle_event config w event in
    handled.answer ∷ answers config handled.world events

-- the world after a list of events
unfoldable pub world_after : Config → World → List Event → World
world_after config w [] = w
world_after config w (event ∷ events) =
    world_after config (handle_event config w event).world events

-- ---- what can be read from a world

-- the records up to a version
abbrev pub up_to_version : Version → List Record → List Record
up_to_version version h = filter (λ (rec : Record). nat_le rec.version version) h

-- the number of rows up to a version: the row of that version plus one, and 0 at version 0
abbrev pub rows_up_to : Version → List Record → ℕ
rows_up_to version h = length (up_to_version version h)

-- the journal of a proxy: the rows of the records up to its version, the last one that it finished
unfoldable pub proxy_journal : Config → World → ProxyNumber → List JournalRow
proxy_journal config w p =
    journal config (history_verdicts config w.history)
    (up_to_version (finished_version w p) w.history)

-- the metadata of a proxy: the fold of its journal
abbrev pub proxy_metadata : Config → World → ProxyNumber → Entries
proxy_metadata config w p = metadata (proxy_journal config w p)

-- the routing of a proxy, at its version
abbrev pub proxy_routing : Config → World → ProxyNumber → Routing
proxy_routing config w p = routing (finished_version w p) (proxy_metadata config w p)

-- the records whose rows resolver r remembers
abbrev pub remembered_by : Config → World → ResolverNumber → List Record
remembered_by config w r = remembered config (take (slice_index w.judged_counts r) w.history)

-- The invariant of every world. The sequencer's moves follow the history. Each record has a
-- received version, which is at most its previous version. Each resolver has a number of judged
-- rows, and each proxy a number of finished records; neither exceeds those of the history. Every
-- resolver has judged each finished record.
pub record IsSound (config : Config) (w : World) : Type 0 where
  pub sequencer : MovesFollow config w.history w.moves
  pub received : length w.received ≡ length w.history
  pub judged_counts : length w.judged_counts ≡ config.resolvers
  pub finished : length w.finished ≡ config.proxies
  pub received_before :
      (i : RowNumber) (received : Version) (rec : Record)
      → slice_get w.history i ≡ Some rec → slice_get w.received i ≡ Some received
      → received ≤ rec.previous
  pub judged_there :
      (r : ResolverNumber) (judged_count : ℕ)
      → slice_get w.judged_counts r ≡ Some judged_count → judged_count ≤ length w.history
  pub finished_there :
      (p : ProxyNumber) (done : ℕ)
      → slice_get w.finished p ≡ Some done → done ≤ length (records_of_proxy p w.history)
  pub judged_first :
      (p : ProxyNumber) (done k : ℕ) (r : ResolverNumber) (judged_count : ℕ) (rec : Record)
      → slice_get w.finished p ≡ Some done → k < done
      → slice_get (records_of_proxy p w.history) k ≡ Some rec
      → slice_get w.judged_counts r ≡ Some judged_count → rec.row < judged_count
