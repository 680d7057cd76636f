-- A locked proxy begins the record of a ticket.
use Rattle.std.proofs.Common.{◌≡◌, refl, sym, ap, ◌∙◌, subst, ℕ, suc, ◌+◌, ◌-◌, ◌*◌, ◌<◌, ◌≤◌, ◌⊎◌, inl, inr, List, [], ◌∷◌, ◌++◌, length, take, slice_get, Option, Some, option_map, arith}
use Rattle.std.proofs.lemmas.Option.{slice_get-map, slice_get_within}
use Rattle.std.proofs.lemmas.List.{length-map}
use Rattle.facts.specs.Stretches.{Agree, HasAt, Lacks, Stretch}
use Rattle.model.specs.Configs.{Config, IsConfig}
use Rattle.model.specs.declared.journal.JournalRow.{JournalRow}
use Rattle.model.specs.Records.{Record, IsHistory, last_version, last_moves, records_of_proxy}
use Rattle.model.specs.Shares.{each_below}
use Rattle.model.specs.Requests.{Request, request, request_back_to}
use Rattle.model.specs.Journal.{history_verdicts, journal}
use Rattle.model.specs.Agreed.{Columns, IsAgreed, IsKnownJournal, AreVerdicts}
use Rattle.model.specs.Finishing.{ProxyView, HoldsMoves, MayBegin, HasBegun}
use Rattle.model.proofs.Agreement.Agreed.{agreed_at_start}
use Rattle.model.proofs.Agreement.Growing.{no_verdicts}
use Rattle.model.proofs.History.Chain.{last_versions_rise, own_up_to_previous, version_before, versions_at}
use Rattle.model.proofs.History.Growth.{push_cases}
use Rattle.model.proofs.Journals.ReplyRows.{length-each_below, slice_get-each_below}
use Rattle.model.proofs.Owners.Moves.{last_moves_at, last_version_at}
use Rattle.model.proofs.Proxies.Beginning.{a_later_record_may_begin}
use Rattle.model.proofs.Verdicts.Places.{row_at, slice_get-take}
use Rattle.agreed_ledger.specs.Sequencing.{TicketView, IsTicket}
use Rattle.locked_resolvers.specs.Requests.{RequestView, IsRequestFor}
use Rattle.locked_cluster.specs.Begun.{AreRequestsFor, BegunView, IsBegun, requests_to_all, with_records}
use Rattle.locked_cluster.specs.Proxies.{LockedProxyView, IsLockedProxy, AreOwn, IsBeginRefusalOf, BeginsTicket, FollowOneAnother, MayFollow, StandAmong}
use Rattle.locked_resolvers.specs.declared.refusal.Refusal.TheVariants as refusals
use Rattle.locked_resolvers.proofs.Lists.{first_same, take_all}
use Rattle.locked_cluster.proofs.ProxyRows.{fewer_rows, journal_of, known_by_history}

-- a locked proxy, and a ticket whose record follows the one that the proxy began last
pub record Continues (config : Config) (v : LockedProxyView) (t : TicketView) (rec : Record) : Type 0 where
  pub keeps : IsLockedProxy config v
  pub ticket : IsTicket config t
  pub there : slice_get t.records t.row ≡ Some rec
  pub follows : rec.own_previous ≡ v.proxy.last_begun
  pub agree : Agree 0 v.records 0 t.records

-- the records of the lock are those before some row up to that of the ticket
begun_before : (config : Config) (v : LockedProxyView) (t : TicketView) (rec : Record) → Continues config v t rec → length v.records ≤ t.row
begun_before config v t rec is =
    let last : last_version v.records ≡ length v.records * config.step = ap last_version (sym (take_all v.records (length v.records) (omega arith))) ∙ version_before config v.records (length v.records) is.keeps.agreed.history (omega arith) in
    let own : rec.own_previous ≡ length v.records * config.step = is.follows ∙ is.keeps.last_begun ∙ last in
    let below : rec.own_previous ≤ rec.previous = own_up_to_previous config t.records t.row rec is.ticket.history is.there in
    let at : rec.previous ≡ t.row * config.step = (versions_at config t.records t.row rec is.ticket.history is.there).0 in
    fewer_rows (length v.records) t.row config.step is.keeps.config_is.step.0 (omega (arith, own, below, at))

-- and the ticket's records begin with them
begins_with : (config : Config) (v : LockedProxyView) (t : TicketView) (rec : Record) → Continues config v t rec → take (length v.records) t.records ≡ v.records
begins_with config v t rec is =
    let before = begun_before config v t rec is in
    let count = is.ticket.last in
    sym (first_same (length v.records) v.records t.records is.agree (omega arith) (omega (arith, before, count))) ∙ take_all v.records (length v.records) (omega arith)

pub may_begin : (config : Config) (v : LockedProxyView) (t : TicketView) (rec : Record) → Continues config v t rec → MayBegin v.proxy rec
may_begin config v t rec is =
    a_later_record_may_begin config t.records t.row (length v.records) rec v.proxy is.ticket.history is.there (begun_before config v t rec is) is.keeps.config_of
    (subst (λ (rs : List Record). HoldsMoves v.proxy (last_moves rs)) (sym (begins_with config v t rec is)) is.keeps.moves)

-- the proxy's version is not above the record's previous version
received : (config : Config) (v : LockedProxyView) (t : TicketView) (rec : Record) → Continues config v t rec → v.proxy.version ≤ rec.previous
received config v t rec is =
    let before = begun_before config v t rec is in
    let known = is.keeps.agreed.rows in
    let count = is.ticket.last in
    let at : last_version (take (length v.proxy.journal) t.records) ≡ length v.proxy.journal * config.step = version_before config t.records (length v.proxy.journal) is.ticket.history (omega (arith, before, known, count)) in
    let rise : last_version (take (length v.proxy.journal) t.records) ≤ last_version (take t.row t.records) = last_versions_rise config t.records (length v.proxy.journal) t.row is.ticket.history (omega (arith, before, known)) (omega (arith, before, known, count)) in
    let previous : rec.previous ≡ last_version (take t.row t.records) = (is.ticket.history t.row rec is.there).previous in
    let version = is.keeps.version in
    omega (arith, at, rise, previous, version)

-- ---- the requests

-- a request of the definition is for the last of the records
request_for : (config : Config) (records : List Record) (row : ℕ) (rec : Record) (last_received r : ℕ) → IsHistory config records → length records ≡ row + 1 → slice_get records row ≡ Some rec → last_received ≤ rec.previous → r < config.resolvers → IsRequestFor config (record { plain = request config rec last_received r; records = records })
unfolding request_back_to
request_for config records row rec last_received r history last there received below =
    let at : rec.row ≡ row = row_at config records row rec history there in
    record { rec = rec; history = history; last = omega (arith, last, at); there = ap (slice_get records) at ∙ there; is = refl; received = received; resolver = below }

-- the request to resolver r
pub request_at : (config : Config) (rec : Record) (last_received r : ℕ) (q : Request) → slice_get (requests_to_all config rec last_received) r ≡ Some q → (r < config.resolvers) × (q ≡ request config rec last_received r)
request_at config rec last_received r q at =
    let within : r < length (requests_to_all config rec last_received) = slice_get_within (requests_to_all config rec last_received) r q at in
    let count : length (requests_to_all config rec last_received) ≡ config.resolvers = length-map (each_below config.resolvers) (request config rec last_received) ∙ length-each_below config.resolvers in
    let below : r < config.resolvers = omega (arith, within, count) in
    let here : slice_get (requests_to_all config rec last_received) r ≡ Some (request config rec last_received r) = slice_get-map (request config rec last_received) (each_below config.resolvers) r ∙ ap (option_map (request config rec last_received)) (slice_get-each_below config.resolvers r below) in
    (below, same q (request config rec last_received r) (slice_get (requests_to_all config rec last_received) r) at here)
  where
    same : (a b : Request) (found : Option Request) → found ≡ Some a → found ≡ Some b → a ≡ b
    same a b found is_a is_b = cc

pub are_requests_for : (config : Config) (v : LockedProxyView) (t : TicketView) (rec : Record) → Continues config v t rec → AreRequestsFor config t.records (requests_to_all config rec v.proxy.version)
are_requests_for config v t rec is r q at =
    let found = request_at config rec v.proxy.version r q at in
    subst (λ (p : Request). IsRequestFor config (record { plain = p; records = t.records })) (sym found.1) (request_for config t.records t.row rec v.proxy.version r is.ticket.history is.ticket.last is.there (received config v t rec is) found.0)

pub is_begun : (config : Config) (v : LockedProxyView) (t : TicketView) (rec : Record) (requests : List RequestView) → Continues config v t rec → requests ≡ with_records t.records (requests_to_all config rec v.proxy.version) → IsBegun config (record { row = t.row; records = t.records; requests = requests })
is_begun config v t rec requests is are =
    record { rec = rec; last_received = v.proxy.version; history = is.ticket.history; last = is.ticket.last; there = is.there; received = received config v t rec is; requests = are }

-- ---- what the lock keeps

follow_more : (version last : ℕ) (begun : List Record) (rec : Record) → FollowOneAnother version last begun → rec.own_previous ≡ last → FollowOneAnother version rec.version (begun ++ rec ∷ [])
follow_more version last [] rec follow own = (own ∙ follow, refl)
follow_more version last (s ∷ begun) rec follow own = (follow.0, follow_more s.version last begun rec follow.1 own)

pub begun_keeps : (config : Config) (v : LockedProxyView) (t : TicketView) (rec : Record) (new : ProxyView) → Continues config v t rec → MayFollow v.proxy rec → HasBegun v.proxy new rec → IsLockedProxy config (record { proxy = new; records = t.records; columns = v.columns })
begun_keeps config v t rec new is may begun =
    record {
      config_is = is.keeps.config_is;
      config_of = begun.config ∙ is.keeps.config_of;
      number = subst (λ (p : ℕ). p < config.proxies) (sym begun.number) is.keeps.number;
      agreed = subst (λ (rows : List JournalRow). IsAgreed config t.records v.columns (length rows)) (sym begun.journal) agreed;
      verdicts = subst (λ (rows : List JournalRow). AreVerdicts config (take (length rows) t.records) v.columns) (sym begun.journal) verdicts;
      journal_is = subst (λ (rows : List JournalRow). IsKnownJournal config t.records v.columns (length rows) rows) (sym begun.journal) known;
      version = begun.version ∙ is.keeps.version ∙ ap (λ (rows : List JournalRow). length rows * config.step) (sym begun.journal);
      own_version =
          begun.version ∙ is.keeps.own_version
          ∙ ap (λ (rs : List Record). last_version (records_of_proxy v.proxy.number rs)) first
          ∙ ap (λ (p : ℕ). last_version (records_of_proxy p (take n t.records))) (sym begun.number)
          ∙ ap (λ (rows : List JournalRow). last_version (records_of_proxy new.number (take (length rows) t.records))) (sym begun.journal);
      own = own;
      begun = stand;
      follow =
          subst (λ (rs : List Record). FollowOneAnother new.version new.last_begun rs) (sym begun.begun)
          (subst (λ (version : ℕ). FollowOneAnother version new.last_begun (v.proxy.begun ++ rec ∷ [])) (sym begun.version)
          (subst (λ (last : ℕ). FollowOneAnother v.proxy.version last (v.proxy.begun ++ rec ∷ [])) (sym begun.last_begun)
          (follow_more v.proxy.version v.proxy.last_begun v.proxy.begun rec is.keeps.follow is.follows)));
      last_begun = begun.last_begun ∙ sym (ap last_version (sym whole) ∙ last_version_at t.records t.row rec is.there);
      moves = subst (HoldsMoves new) (sym (ap last_moves (sym whole) ∙ last_moves_at t.records t.row rec is.there)) begun.holds;
    }
  where
    n : ℕ
    n = length v.proxy.journal

    before : length v.records ≤ t.row
    before = begun_before config v t rec is

    rows : n ≤ length v.records
    rows = is.keeps.agreed.rows

    within : n ≤ length t.records
    within = let count = is.ticket.last in omega (arith, before, rows, count)

    whole : take (suc t.row) t.records ≡ t.records
    whole = let count = is.ticket.last in take_all t.records (suc t.row) (omega (arith, count))

    first : take n v.records ≡ take n t.records
    first = first_same n v.records t.records is.agree rows within

    agreed : IsAgreed config t.records v.columns n
    agreed = record { history = is.ticket.history; rows = within; cells = is.keeps.agreed.cells }

    verdicts : AreVerdicts config (take n t.records) v.columns
    verdicts = subst (λ (rs : List Record). AreVerdicts config rs v.columns) first is.keeps.verdicts

    known : IsKnownJournal config t.records v.columns n v.proxy.journal
    known = known_by_history config t.records v.columns n v.proxy.journal is.ticket.history verdicts (journal_of config v is.keeps ∙ ap (λ (rs : List Record). journal config (history_verdicts config rs) rs) first)

    own : AreOwn new.number new.begun
    own place s at = by (push_cases v.proxy.begun rec place s (ap (λ (rs : List Record). slice_get rs place) (sym begun.begun) ∙ at))
      where
        by : ((place ≡ length v.proxy.begun) × (rec ≡ s)) ⊎ ((place < length v.proxy.begun) × (slice_get v.proxy.begun place ≡ Some s)) → s.proxy ≡ new.number
        by (inl last) = ap (λ (r : Record). r.proxy) (sym last.1) ∙ may.own ∙ sym begun.number
        by (inr sooner) = is.keeps.own place s sooner.1 ∙ sym begun.number

    stand : StandAmong t.records new.begun
    stand place s at = by (push_cases v.proxy.begun rec place s (ap (λ (rs : List Record). slice_get rs place) (sym begun.begun) ∙ at))
      where
        by : ((place ≡ length v.proxy.begun) × (rec ≡ s)) ⊎ ((place < length v.proxy.begun) × (slice_get v.proxy.begun place ≡ Some s)) → slice_get t.records s.row ≡ Some s
        by (inl last) =
            let own : slice_get t.records rec.row ≡ Some rec = ap (slice_get t.records) (row_at config t.records t.row rec is.ticket.history is.there) ∙ is.there in
            subst (λ (r : Record). slice_get t.records r.row ≡ Some r) last.1 own
        by (inr sooner) = (slice_get-take t.records (length v.records) s.row s (ap (λ (rs : List Record). slice_get rs s.row) (begins_with config v t rec is) ∙ is.keeps.begun place s sooner.1)).1

-- ---- before the first record

pub new_keeps : (config : Config) (v : ProxyView) (columns : Columns) → IsConfig config → v.config ≡ config → v.number < config.proxies → v.last_begun ≡ 0 → v.begun ≡ [] → v.version ≡ 0 → v.journal ≡ [] → HoldsMoves v [] → IsLockedProxy config (record { proxy = v; records = []; columns = columns })
unfolding journal
new_keeps config v columns limits same number last_begun none version empty moves =
    record {
      config_is = limits;
      config_of = same;
      number = number;
      agreed = subst (λ (rows : List JournalRow). IsAgreed config [] columns (length rows)) (sym empty) (agreed_at_start config columns);
      verdicts = subst (λ (rows : List JournalRow). AreVerdicts config (take (length rows) []) columns) (sym empty) (no_verdicts config columns);
      journal_is = subst (λ (rows : List JournalRow). IsKnownJournal config [] columns (length rows) rows) (sym empty) refl;
      version = version ∙ start ∙ ap (λ (rows : List JournalRow). length rows * config.step) (sym empty);
      own_version = version ∙ ap (λ (rows : List JournalRow). last_version (records_of_proxy v.number (take (length rows) no_records))) (sym empty);
      own = λ place rec at. absurd (nothing place rec (ap (λ (rs : List Record). slice_get rs place) (sym none) ∙ at));
      begun = λ place rec at. absurd (nothing place rec (ap (λ (rs : List Record). slice_get rs place) (sym none) ∙ at));
      follow = subst (λ (rs : List Record). FollowOneAnother v.version v.last_begun rs) (sym none) (last_begun ∙ sym version);
      last_begun = last_begun;
      moves = moves;
    }
  where
    start : 0 ≡ 0 * config.step
    start = omega arith

    no_records : List Record
    no_records = []

    nothing : (place : ℕ) (rec : Record) → slice_get no_records place ≡ Some rec → ⊥
    nothing place rec at = cc

-- ---- the record of a ticket

-- the records of the ticket have its row
pub row_is_there : (config : Config) (t : TicketView) (s : Stretch Record) (row : ℕ) → IsTicket config t → s ≡ record { first = 0; known = t.records } → row ≡ t.row → Lacks s row → ⊥
row_is_there config t s row ticket is same lacks = by (subst (λ (u : Stretch Record). Lacks u row) is lacks)
  where
    by : (row < 0) ⊎ (0 + length t.records ≤ row) → ⊥
    by (inl below) = absurd (omega (arith, below))
    by (inr past) = let last = ticket.last in omega (arith, past, last, same)

pub record_there : (t : TicketView) (s : Stretch Record) (row : ℕ) (rec : Record) → s ≡ record { first = 0; known = t.records } → row ≡ t.row → HasAt s row rec → slice_get t.records t.row ≡ Some rec
record_there t s row rec is same has =
    let at : slice_get t.records (row - 0) ≡ Some rec = (subst (λ (u : Stretch Record). HasAt u row rec) is has).1 in
    let none : t.row ≡ row - 0 = omega (arith, same) in
    ap (slice_get t.records) none ∙ at

-- ---- refusals

pub not_mine : (v : LockedProxyView) (rec : Record) (proxy number : ℕ) → proxy ≡ rec.proxy → number ≡ v.proxy.number → (proxy ≡ number → ⊥) → IsBeginRefusalOf v.proxy rec refusals.NotMine
not_mine v rec proxy number proxy_is number_is apart = λ same. apart (proxy_is ∙ same ∙ sym number_is)

pub out_of_order : (v : LockedProxyView) (rec : Record) (own expected : ℕ) → rec.proxy ≡ v.proxy.number → own ≡ rec.own_previous → expected ≡ v.proxy.last_begun → (own ≡ expected → ⊥) → IsBeginRefusalOf v.proxy rec (refusals.OutOfOrder expected)
out_of_order v rec own expected mine own_is expected_is apart = (mine, λ same. apart (own_is ∙ same ∙ sym expected_is), expected_is)

pub all_count : (config : Config) (rec : Record) (last_received : ℕ) → length (requests_to_all config rec last_received) ≡ config.resolvers
all_count config rec last_received = length-map (each_below config.resolvers) (request config rec last_received) ∙ length-each_below config.resolvers

pub begins_ticket : (config : Config) (v : LockedProxyView) (t : TicketView) (rec : Record) (new : ProxyView) (records : List Record) (begun : BegunView) → Continues config v t rec → MayFollow v.proxy rec → HasBegun v.proxy new rec → records ≡ t.records → begun ≡ record { row = t.row; records = t.records; requests = with_records t.records (requests_to_all config rec v.proxy.version) }
    → BeginsTicket config v t (record { proxy = new; records = records; columns = v.columns }) begun
begins_ticket config v t rec new records begun is may has grown told =
    record {
      rec = rec;
      there = is.there;
      may = may;
      begins = has;
      records = grown;
      columns = refl;
      row = ap (λ (b : BegunView). b.row) told;
      begun_records = ap (λ (b : BegunView). b.records) told;
      requests = ap (λ (b : BegunView). b.requests) told;
    }
