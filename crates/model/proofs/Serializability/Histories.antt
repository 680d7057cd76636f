-- Every history obeys the rule of commit.
use Rattle.std.proofs.Common.{◌≡◌, refl, sym, ap, ◌∙◌, subst, ℕ, ◌-◌, ◌<◌, max, List, [], ◌∷◌, map, take, arith}
use Rattle.std.specs.Prelude.{Bool, true, false, ◌&&◌, ◌||◌, not, ◌⊎◌, if◌then◌else◌, nat_lt, slice_get, Contains}
use Rattle.std.specs.List.{list_any}
use Rattle.std.proofs.lemmas.Bool.{lt-ltb, or_left, or_right, and_parts, and_from}
use mathlib.Core.Logic.{inl, inr}
use Rattle.system_keys.specs.Keys.{Key, Range, holds}
use Rattle.model.specs.Configs.{Config, IsConfig}
use Rattle.model.specs.declared.verdict.Verdict.{Verdict}
use Rattle.model.specs.declared.verdict.Verdict.TheVariants as verdicts
use Rattle.model.specs.declared.outcome.Outcome.TheVariants.{Committed}
use Rattle.model.specs.Transactions.{StampedTransaction, is_state_transaction, all_reads}
use Rattle.model.specs.Owners.{asks_write, asks_read, is_last, walk_visits, owners}
use Rattle.model.specs.Records.{Record, IsHistory, oldest}
use Rattle.model.specs.Shares.{asks, asked, each_below, read_bound}
use Rattle.model.specs.Verdicts.{JudgedPart, has_some, is_too_old, is_after_snapshot, reads_a_write, committed_after, joined}
use Rattle.model.specs.Metadata.{is_locked, metadata}
use Rattle.model.specs.Journal.{history_verdicts, history_verdict_in_row, journal}
use Rattle.model.specs.Outcomes.{joined_verdict, outcome_of_verdict, outcome}
use Rattle.model.specs.Serial.{Place, IsBetween, IsCommitted, seen_at, verdict_at_place}
use Rattle.model.specs.Laws.Serializability.{HistoriesAreSerial}
use Rattle.model.proofs.History.Growth.{Has-each_below}
use Rattle.model.proofs.Owners.FiniteTests.{asks_write_iff, asks_read_iff}
use Rattle.model.proofs.Owners.Moves.{grows}
use Rattle.model.proofs.Owners.Asked.{some_last, last_met, met_or_old}
use Rattle.model.proofs.Verdicts.Joined.{joined_committed}
use Rattle.model.proofs.Members.{Has, Has-map, Has-from_Contains, Contains-from_Has, list_any-from_Has, Has-filter}
use Rattle.model.proofs.Verdicts.Places.{row_at, same_record, judged_before_place, verdict_at_place_is}
use Rattle.model.proofs.Verdicts.ByPlaces.{verdict-from_HasConflictWith}

-- ---- committed by all that were asked

joined_committed_at : (f : ℕ → Verdict) (rs : List ℕ) (r : ℕ) → joined (map f rs) ≡ verdicts.Committed → Has rs r → f r ≡ verdicts.Committed
joined_committed_at f rs r e there = joined_committed (map f rs) (f r) e (Has-map f rs r there)

outcome_by_committed : (v : Verdict) (refused : Bool) (version number : ℕ) → outcome_of_verdict v refused version number ≡ Committed version number → v ≡ verdicts.Committed
outcome_by_committed verdicts.Conflict refused version number e = absurd (cc)
outcome_by_committed verdicts.TooOld refused version number e = absurd (cc)
outcome_by_committed verdicts.Committed refused version number e = refl

verdict_in_at_place : (config : Config) (r : ℕ) (h : List Record) (a : Place h) → IsHistory config h → history_verdicts config h r a.rec.row a.n ≡ verdict_at_place config r h a
unfolding history_verdicts
verdict_in_at_place config r h a history = ap (λ (i : ℕ). history_verdict_in_row config h r i a.n (slice_get h i)) (row_at config h a.i a.rec history a.record_is) ∙ rw (a.record_is, a.transaction_is) refl

-- each resolver that a committed transaction asks committed it
pub committed_by_asked : (config : Config) (r : ℕ) (h : List Record) (a : Place h) → IsHistory config h → IsCommitted config h a → r < config.resolvers → asks config a.rec r a.transaction ≡ true → verdict_at_place config r h a ≡ verdicts.Committed
unfolding outcome joined_verdict
committed_by_asked config r h a history committed there asking =
    let all = outcome_by_committed (joined_verdict config (history_verdicts config h) a.rec a.n a.transaction) (not a.transaction.lock_aware && is_locked (metadata (journal config (history_verdicts config h) (take a.i h)))) a.rec.version a.n committed in
    let among = Has-filter (λ (s : ℕ). asks config a.rec s a.transaction) (each_below config.resolvers) r (Has-each_below config.resolvers r there) asking in
    sym (verdict_in_at_place config r h a history) ∙ joined_committed_at (λ (s : ℕ). history_verdicts config h s a.rec.row a.n) (asked config a.rec a.transaction) r all among

-- what a resolver committed was in time
in_time_from_committed : (old hit : Bool) → (if old then verdicts.TooOld else if hit then verdicts.Conflict else verdicts.Committed) ≡ verdicts.Committed → old ≡ false
in_time_from_committed true hit e = absurd (cc)
in_time_from_committed false hit e = refl

committed_in_time : (config : Config) (r : ℕ) (h : List Record) (a : Place h) → verdict_at_place config r h a ≡ verdicts.Committed → is_too_old config.window (seen_at config r a) ≡ false
committed_in_time config r h a committed =
    in_time_from_committed (is_too_old config.window (seen_at config r a)) (list_any (λ (u : JudgedPart). is_after_snapshot (seen_at config r a) u && reads_a_write (seen_at config r a) u) (committed_after config.window [] (judged_before_place config r h a))) (sym (verdict_at_place_is config r h a) ∙ committed)

-- ---- who is asked

asked_by_write : (config : Config) (r : ℕ) (rec : Record) (t : StampedTransaction) (write : Range) (key : Key) → Contains t.writes write → holds write key ≡ true → is_last r (owners rec.moves key) ≡ true → (asks_write rec.moves r write ≡ true) × (asks config rec r t ≡ true)
asked_by_write config r rec t write key there inside owns =
    let test = (asks_write_iff rec.moves r write).1 (record { key = key; inside = inside; owns = owns }) in
    let some = list_any-from_Has (asks_write rec.moves r) t.writes write (Has-from_Contains t.writes write there) test in
    (test, or_right (is_state_transaction t || list_any (asks_read rec.moves (read_bound (oldest config rec) t) r) (all_reads t)) (list_any (asks_write rec.moves r) t.writes) some)

asked_by_read : (config : Config) (r : ℕ) (rec : Record) (t : StampedTransaction) (read : Range) (key : Key) → Contains (all_reads t) read → holds read key ≡ true → walk_visits (read_bound (oldest config rec) t) r (owners rec.moves key) ≡ true → (asks_read rec.moves (read_bound (oldest config rec) t) r read ≡ true) × (asks config rec r t ≡ true)
asked_by_read config r rec t read key there inside met =
    let test = (asks_read_iff rec.moves (read_bound (oldest config rec) t) r read).1 (record { key = key; inside = inside; met = met }) in
    let some = list_any-from_Has (asks_read rec.moves (read_bound (oldest config rec) t) r) (all_reads t) read (Has-from_Contains (all_reads t) read there) test in
    (test, or_left (is_state_transaction t || list_any (asks_read rec.moves (read_bound (oldest config rec) t) r) (all_reads t)) (list_any (asks_write rec.moves r) t.writes) (or_right (is_state_transaction t) (list_any (asks_read rec.moves (read_bound (oldest config rec) t) r) (all_reads t)) some))

read_seen : (config : Config) (r : ℕ) (h : List Record) (b : Place h) (read : Range) → Contains (all_reads b.transaction) read → asks_read b.rec.moves (read_bound (oldest config b.rec) b.transaction) r read ≡ true → Contains (seen_at config r b).part.reads read
read_seen config r h b read there test =
    Contains-from_Has (seen_at config r b).part.reads read (Has-filter (asks_read b.rec.moves (read_bound (oldest config b.rec) b.transaction) r) (all_reads b.transaction) read (Has-from_Contains (all_reads b.transaction) read there) test)

write_seen : (config : Config) (r : ℕ) (h : List Record) (a : Place h) (write : Range) → Contains a.transaction.writes write → asks_write a.rec.moves r write ≡ true → Contains (seen_at config r a).part.writes write
write_seen config r h a write there test =
    Contains-from_Has (seen_at config r a).part.writes write (Has-filter (asks_write a.rec.moves r) a.transaction.writes write (Has-from_Contains a.transaction.writes write there) test)

-- ---- the two cases

-- two committed transactions, a write of the first and a read of the second, and a key in both
record Pair (config : Config) (h : List Record) : Type 0 where
  pub a : Place h
  pub b : Place h
  pub committed_a : IsCommitted config h a
  pub committed_b : IsCommitted config h b
  pub between : IsBetween a b
  pub write : Range
  pub read : Range
  pub write_in : Contains a.transaction.writes write
  pub read_in : Contains (all_reads b.transaction) read
  pub key : Key
  pub inside_write : holds write key ≡ true
  pub inside_read : holds read key ≡ true

-- the owner of the key at the first transaction is asked about the read: it finds the conflict
refused_by_owner : (config : Config) (h : List Record) (p : Pair config h) (r : ℕ) → IsHistory config h → r < config.resolvers → is_last r (owners p.a.rec.moves p.key) ≡ true → walk_visits (read_bound (oldest config p.b.rec) p.b.transaction) r (owners p.b.rec.moves p.key) ≡ true → ⊥
refused_by_owner config h p r history there last met =
    let write = asked_by_write config r p.a.rec p.a.transaction p.write p.key p.write_in p.inside_write last in
    let read = asked_by_read config r p.b.rec p.b.transaction p.read p.key p.read_in p.inside_read met in
    let said_a = committed_by_asked config r h p.a history p.committed_a there write.1 in
    let said_b = committed_by_asked config r h p.b history p.committed_b there read.1 in
    let conflict = verdict-from_HasConflictWith config r h p.b (record {
      in_time = committed_in_time config r h p.b said_b;
      a = p.a;
      asked = write.1;
      committed = said_a;
      between = p.between;
      read = p.read;
      write = p.write;
      read_in = read_seen config r h p.b p.read p.read_in read.0;
      write_in = write_seen config r h p.a p.write p.write_in write.0;
      overlap = record { key = p.key; shared = and_from (holds p.read p.key) (holds p.write p.key) p.inside_read p.inside_write };
    }) in
    absurd (cc)

has_some-from_Contains : (ranges : List Range) (range : Range) → Contains ranges range → has_some ranges ≡ true
has_some-from_Contains [] range (k, within, at) = absurd (omega arith)
has_some-from_Contains (x ∷ xs) range there = refl

-- the snapshot of the second lies before what the owners remember: whoever owns the key then finds it too old
refused_by_age : (config : Config) (h : List Record) (p : Pair config h) → IsConfig config → IsHistory config h → p.b.transaction.snapshot < oldest config p.b.rec → ⊥
refused_by_age config h p limits history old =
    let last = some_last config h p.b.i p.b.rec p.key (omega (arith, limits.resolvers.0)) history p.b.record_is in
    let met = last_met (read_bound (oldest config p.b.rec) p.b.transaction) last.resolver (owners p.b.rec.moves p.key) last.last in
    let read = asked_by_read config last.resolver p.b.rec p.b.transaction p.read p.key p.read_in p.inside_read met in
    let said = committed_by_asked config last.resolver h p.b history p.committed_b last.there read.1 in
    let in_time = committed_in_time config last.resolver h p.b said in
    let seen = read_seen config last.resolver h p.b p.read p.read_in read.0 in
    let stepped = (history p.b.i p.b.rec p.b.record_is).version in
    let below : p.b.transaction.snapshot < p.b.rec.version - config.window = omega (arith, old, stepped) in
    let too_old : is_too_old config.window (seen_at config last.resolver p.b) ≡ true = and_from (has_some (seen_at config last.resolver p.b).part.reads) (nat_lt p.b.transaction.snapshot (p.b.rec.version - config.window)) (has_some-from_Contains (seen_at config last.resolver p.b).part.reads p.read seen) (lt-ltb p.b.transaction.snapshot (p.b.rec.version - config.window) below) in
    absurd (cc)

refused : (config : Config) (h : List Record) (p : Pair config h) → IsConfig config → IsHistory config h → IsBetween p.a p.b → ⊥
refused config h p limits history (inl same) =
    let last = some_last config h p.a.i p.a.rec p.key (omega (arith, limits.resolvers.0)) history p.a.record_is in
    let one = same_record p.a p.b same.0 in
    let there : is_last last.resolver (owners p.b.rec.moves p.key) ≡ true = subst (λ (rec : Record). is_last last.resolver (owners rec.moves p.key) ≡ true) one last.last in
    refused_by_owner config h p last.resolver history last.there last.last (last_met (read_bound (oldest config p.b.rec) p.b.transaction) last.resolver (owners p.b.rec.moves p.key) there)
refused config h p limits history (inr later) =
    let last = some_last config h p.a.i p.a.rec p.key (omega (arith, limits.resolvers.0)) history p.a.record_is in
    let grown = grows config h p.a.i p.b.i p.a.rec p.b.rec history later.0 p.a.record_is p.b.record_is in
    go last.resolver last.there last.last (met_or_old config p.a.rec p.b.rec p.key last.resolver p.b.transaction.snapshot grown later.1 last.last)
  where
    go : (r : ℕ) → r < config.resolvers → is_last r (owners p.a.rec.moves p.key) ≡ true → (walk_visits (max p.b.transaction.snapshot (oldest config p.b.rec)) r (owners p.b.rec.moves p.key) ≡ true) ⊎ (p.b.transaction.snapshot < oldest config p.b.rec) → ⊥
    go r there last (inl met) = refused_by_owner config h p r history there last met
    go r there last (inr old) = refused_by_age config h p limits history old

pub history_is_serial : HistoriesAreSerial
history_is_serial config h limits history a b committed_a committed_b between write read write_in read_in overlap =
    let both = and_parts (holds write overlap.key) (holds read overlap.key) overlap.shared in
    refused config h (record { a = a; b = b; committed_a = committed_a; committed_b = committed_b; between = between; write = write; read = read; write_in = write_in; read_in = read_in; key = overlap.key; inside_write = both.0; inside_read = both.1 }) limits history between
