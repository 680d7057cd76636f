-- What an event returns fits it: only a finish finishes a record, whose mutations are in order.
use Rattle.std.proofs.Common.{◌≡◌, ℕ, suc, ◌+◌, ◌≤◌, refl, Bool, true, false, nat_le, nat_lt, List, [], ◌∷◌, ◌++◌, take, slice_get, slice_set, slice_index, Option, Some, None, arith}
use Rattle.std.specs.Prelude.{if◌then◌else◌}
use Rattle.std.proofs.lemmas.Bool.{and_from, and_parts, le-leb, leb-true}
use Rattle.system_keys.specs.Keys.{Range}
use Rattle.system_keys.specs.declared.change.Change.{Change}
use Rattle.model.specs.Configs.{Config, version_limit}
use Rattle.model.specs.Journal.{VerdictSource, history_verdicts}
use Rattle.model.specs.Metadata.{Entries}
use Rattle.model.specs.Outcomes.{outcome, outcome_of_verdict, joined_verdict, is_refused, outcomes_from, outcomes_after}
use Rattle.model.specs.Records.{Record, last_version, records_of_proxy}
use Rattle.model.specs.Shares.{each_below}
use Rattle.model.specs.Stamps.{AdmittedTransaction}
use Rattle.model.specs.Transactions.{StampedTransaction}
use Rattle.model.specs.World.{World, Event, Sequence, MoveRange, Offer, Finish, Handled, Sequenced, Moved, Judged, Again}
use Rattle.model.specs.World.{NoSuchProxy, NoSuchResolver, WrongResolver, VersionsEnd, GivenUp, Early}
use Rattle.model.specs.World.{refuse, handle_event, handle_repeat, handle_offer_at, handle_offer, handle_finish, finish_record, reply_of}
use Rattle.model.specs.World.{missing_replies, acknowledged, finished_version, next_record, tagged_from, tagged_one, tagged_all, finished_after}
use Rattle.model.specs.declared.journal.JournalRow.{JournalRow}
use Rattle.model.specs.declared.moves.Move.{Move}
use Rattle.model.specs.declared.outcome.Tagged.{Tagged}
use Rattle.model.specs.declared.reply.Reply.{Reply}
use Rattle.model.specs.declared.verdict.Verdict.{Verdict}
use Rattle.model.specs.declared.verdict.Verdict.TheVariants.{Conflict, TooOld, Committed}
use Rattle.turns_run.specs.Lines.{finishing_proxy}
use Rattle.turns_run.specs.OrderOfMutations.{are_in_order, FitsFinish}

-- ---- the mutations of a finished record

in_order_below : (less least : ℕ) (tagged : List Tagged) → less ≤ least → are_in_order least tagged ≡ true → are_in_order less tagged ≡ true
in_order_below less least [] below ordered = refl
in_order_below less least (first ∷ later) below ordered =
    let parts = and_parts (nat_le least first.number) (are_in_order first.number later) ordered in
    let reached : least ≤ first.number = leb-true least first.number parts.0 in
    and_from (nat_le less first.number) (are_in_order first.number later) (le-leb less first.number (omega (arith, below, reached))) parts.1

-- those of one transaction, and then those of the transactions after it
one_in_order : (entries : Entries) (least n place : ℕ) (changes : List Change) (later : List Tagged) → least ≤ n → are_in_order n later ≡ true → are_in_order least (tagged_from entries n place changes ++ later) ≡ true
one_in_order entries least n place [] later below ordered = in_order_below least n later below ordered
one_in_order entries least n place (change ∷ changes) later below ordered =
    and_from (nat_le least n) (are_in_order n (tagged_from entries n (suc place) changes ++ later)) (le-leb least n below)
    (let reached : n ≤ n = omega arith in one_in_order entries n n (suc place) changes later reached ordered)

all_in_order : (config : Config) (verdict_by : VerdictSource) (locked : Bool) (rec : Record) (entries : Entries) (least n : ℕ)
    (ts : List StampedTransaction)
    → least ≤ n → are_in_order least (tagged_all entries ts (outcomes_from config verdict_by locked rec n ts)) ≡ true
unfolding outcome
all_in_order config verdict_by locked rec entries least n [] below = refl
all_in_order config verdict_by locked rec entries least n (t ∷ ts) below =
    by (joined_verdict config verdict_by rec n t) (is_refused locked t) (all_in_order config verdict_by locked rec entries n (suc n) ts (omega arith))
  where
    rest : List Tagged
    rest = tagged_all entries ts (outcomes_from config verdict_by locked rec (suc n) ts)

    by : (v : Verdict) (refused : Bool) → are_in_order n rest ≡ true → are_in_order least (tagged_one entries t (outcome_of_verdict v refused rec.version n) ++ rest) ≡ true
    by Conflict refused ordered = in_order_below least n rest below ordered
    by TooOld refused ordered = in_order_below least n rest below ordered
    by Committed true ordered = in_order_below least n rest below ordered
    by Committed false ordered = one_in_order entries least n 0 t.changes rest below ordered

finished_in_order : (config : Config) (verdict_by : VerdictSource) (journal_before : List JournalRow) (rec : Record) → are_in_order 0 (finished_after config verdict_by journal_before rec).tagged ≡ true
unfolding finished_after outcomes_after
finished_in_order config verdict_by journal_before rec = all_in_order config verdict_by _ rec _ 0 0 rec.batch (let none : 0 ≤ 0 = omega arith in none)

-- ---- the answers

fits_both : (finishing : Option ℕ) (b : Bool) (x y : Handled) → FitsFinish finishing x.answer → FitsFinish finishing y.answer → FitsFinish finishing (if b then x else y).answer
fits_both finishing true x y first second = first
fits_both finishing false x y first second = second

repeat_fits : (w : World) (reply : Reply) (received : ℕ) → FitsFinish None (handle_repeat w reply received).answer
repeat_fits w reply received = fits_both None (nat_le reply.version received) (refuse w (GivenUp received)) (record { world = w; answer = Again reply }) tt tt

abbrev judged_now : (w : World) (count r : ℕ) (reply : Reply) → Handled
judged_now w count r reply = record { world = record w { judged_counts = slice_set w.judged_counts r (suc count) }; answer = Judged reply }

abbrev not_early : (w : World) (count r : ℕ) (reply : Reply) → Handled
not_early w count r reply = if nat_lt reply.row count then handle_repeat w reply (acknowledged w count reply.proxy) else judged_now w count r reply

at_fits : (w : World) (count r : ℕ) (reply : Reply) → FitsFinish None (handle_offer_at w count r reply).answer
at_fits w count r reply =
    fits_both None (nat_lt count reply.row) (refuse w (Early (last_version (take count w.history)))) (not_early w count r reply) tt
    (fits_both None (nat_lt reply.row count) (handle_repeat w reply (acknowledged w count reply.proxy)) (judged_now w count r reply) (repeat_fits w reply (acknowledged w count reply.proxy)) tt)

offer_fits : (config : Config) (w : World) (row r : ℕ) (found : Option Record) → FitsFinish None (handle_offer config w row r found).answer
offer_fits config w row r None = tt
offer_fits config w row r (Some rec) =
    let reply : Reply = reply_of config (history_verdicts config w.history) r (take row w.history) rec in
    let count : ℕ = slice_index w.judged_counts r in
    fits_both None (nat_le config.resolvers r) (refuse w WrongResolver) (handle_offer_at w count r reply) tt (at_fits w count r reply)

finish_fits : (config : Config) (w : World) (p : ℕ) (rec : Record) (missing : List ℕ) → FitsFinish (Some p) (finish_record config w p rec missing).answer
finish_fits config w p rec (r ∷ rs) = tt
finish_fits config w p rec [] = (refl, finished_in_order config _ _ rec)

next_fits : (config : Config) (w : World) (p : ℕ) (next : Option Record) → FitsFinish (Some p) (handle_finish config w p next).answer
next_fits config w p None = tt
next_fits config w p (Some rec) = finish_fits config w p rec (missing_replies w rec.row (each_below config.resolvers))

abbrev sequenced : (config : Config) (w : World) (p : ℕ) (batch : List AdmittedTransaction) → Handled
sequenced config w p batch =
    let rec : Record = next_record config w p batch in
    record {
      world = record w { history = w.history ++ rec ∷ []; received = w.received ++ finished_version w p ∷ [] };
      answer = Sequenced rec.row rec.version;
    }

abbrev in_space : (config : Config) (w : World) (p : ℕ) (batch : List AdmittedTransaction) → Handled
in_space config w p batch = if nat_le version_limit (next_record config w p batch).version then refuse w VersionsEnd else sequenced config w p batch

abbrev moved : (w : World) (range : Range) (dest : ℕ) → Handled
moved w range dest =
    let move : Move = record { range = range; date = last_version w.history + 1; dest = dest } in
    record { world = record w { moves = w.moves ++ move ∷ [] }; answer = Moved (last_version w.history + 1) }

pub fits_finish : (config : Config) (w : World) (event : Event) → FitsFinish (finishing_proxy event) (handle_event config w event).answer
unfolding handle_event
fits_finish config w (Sequence p batch) =
    fits_both None (nat_le config.proxies p) (refuse w NoSuchProxy) (in_space config w p batch) tt
    (fits_both None (nat_le version_limit (next_record config w p batch).version) (refuse w VersionsEnd) (sequenced config w p batch) tt tt)
fits_finish config w (MoveRange range dest) = fits_both None (nat_le config.resolvers dest) (refuse w NoSuchResolver) (moved w range dest) tt tt
fits_finish config w (Offer row r) = offer_fits config w row r (slice_get w.history row)
fits_finish config w (Finish p) =
    let next : Option Record = slice_get (records_of_proxy p w.history) (slice_index w.finished p) in
    fits_both (Some p) (nat_le config.proxies p) (refuse w NoSuchProxy) (handle_finish config w p next) tt (next_fits config w p next)
