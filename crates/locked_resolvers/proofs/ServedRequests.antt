-- What a resolver under its lock makes of a request: of one that comes next, and of one that was judged before.
use Rattle.std.proofs.Common.{◌≡◌, refl, sym, ap, ◌∙◌, subst, ℕ, ◌+◌, ◌*◌, ◌<◌, ◌≤◌, ◌⊎◌, inl, inr, List, [], ◌∷◌, ◌++◌, length, take, Bool, true, false, not, ◌&&◌, nat_eq, nat_le, nat_lt, if◌then◌else◌, slice_get, Option, Some, None, option_map, arith, length-append}
use Rattle.std.specs.Prelude.{Result, Ok, Err, IsOk}
use Rattle.std.proofs.lemmas.Bool.{cases_order, eq-eqb, eqb-true, ne_eqb, leb-true, leb-false, lt-ltb, ltb-true}
use Rattle.std.proofs.Math.Nat.{mul-lt-mul_of_pos_right}
use Rattle.std.proofs.lemmas.List.{map-append, take-map}
use Rattle.std.proofs.lemmas.Option.{slice_get-map, slice_get_within}
use Rattle.facts.specs.Stretches.{Agree, Stretch, appended, end_of}
use Rattle.model.specs.Configs.{Config, IsConfig}
use Rattle.model.specs.declared.reply.Reply.{Reply}
use Rattle.model.specs.declared.verdict.Verdict.{Verdict}
use Rattle.model.specs.Records.{Record, IsHistory, Follows, last_version}
use Rattle.model.specs.Verdicts.{share_verdicts}
use Rattle.model.specs.Journal.{history_verdicts}
use Rattle.model.specs.Requests.{Request, request, request_back_to, request_reply, last_request_version}
use Rattle.model.specs.Acknowledged.{acknowledged_requests}
use Rattle.model.specs.Offers.{OfferResult, OfferFault, is_in_order, answer_to, answer_again, answer_in_order, kept_replies, reply_at}
use Rattle.model.specs.Offers as offers
use Rattle.model.specs.World.{reply_of}
use Rattle.model.specs.Agreed.{Column, IsVerdictColumn}
use Rattle.model.specs.ResolverMemory.{ResolverView, StandsForRequests, Decision, GiveAgain, Judge, course}
use Rattle.model.specs.Laws.Resolvers.{answer_on_course}
use Rattle.model.proofs.History.Growth.{last_version-push, push_cases}
use Rattle.model.proofs.History.Chain.{element_at, up_to_front, version_before, versions_at}
use Rattle.model.proofs.Agreement.Holders.{column_first, column_more}
use Rattle.model.proofs.Agreement.Sources.{replies_later}
use Rattle.model.proofs.Resolvers.Answers.{IsNext, is_next, memory_answers}
use Rattle.model.proofs.Resolvers.Judged.{map_each}
use Rattle.model.proofs.Resolvers.Offers.{answer_early, answer_judged, answer_known, answer_repeat, given_up, kept_at}
use Rattle.model.proofs.Resolvers.Requests.{last_of_requests, request_reply_is, requests_for}
use Rattle.model.proofs.Verdicts.Places.{row_at, slice_get-take}
use Rattle.state_memory.specs.Answers.{AnswersAfterJudged, GainsRequest, RepliesAfterJudged, offer_answer_of}
use Rattle.state_memory.specs.declared.answer.Answer.{Answer as OfferAnswer}
use Rattle.state_memory.specs.declared.answer.Answer.TheVariants as answers
use Rattle.agreed_ledger.specs.Cells.{AllHaveRows, AreKnownAt, Cells, ColumnView, IsWithin, NotedVerdicts, verdict_cells, with_rows}
use Rattle.facts.specs.Unsets.{IfTaken}
use Rattle.facts.specs.declared.setting.NotSet.{NotSet}
use Rattle.facts.specs.declared.setting.NotSet.TheVariants as unset
use Rattle.state_memory.specs.declared.refusal.Refusal.{Refusal as OfferRefusal}
use Rattle.state_memory.specs.declared.refusal.Refusal.TheVariants as offered
use Rattle.locked_resolvers.specs.Requests.{RequestView, IsRequestFor, HasRowVersions}
use Rattle.locked_resolvers.specs.NotedReplies.{NotedReplyView, IsNotedReply, IsReplyToRequest}
use Rattle.locked_resolvers.specs.Resolvers.{AnswerHas, AreReceivedBefore, HasJudged, HasOffered, HasRepeated, IsJudgedAnswer, IsLockedResolver, IsNotEarly, IsOfferRefusal, LockedResolverView, ShowsReply, StandsForRecords, TellsTaken, after_refusal, is_early, requests_to}
use Rattle.locked_resolvers.specs.Refusals.{of_offer, of_unset, taken_note}
use Rattle.locked_resolvers.specs.declared.refusal.Refusal.{Refusal}
use Rattle.locked_resolvers.specs.declared.refusal.Refusal.TheVariants as refusals
use Rattle.locked_resolvers.proofs.Lists.{beginning_of, first_same, one_more, same_rows, take_all, take_before}

-- ---- the numbers of a request

-- what a request has of its record
pub record HasNumbersOf (q : Request) (rec : Record) : Type 0 where
  pub proxy : q.proxy ≡ rec.proxy
  pub row : q.row ≡ rec.row
  pub previous : q.previous ≡ rec.previous
  pub version : q.version ≡ rec.version

pub numbers_of : (config : Config) (v : RequestView) (p : IsRequestFor config v) → HasNumbersOf v.plain p.rec
unfolding request_back_to
numbers_of config v p =
    record {
      proxy = ap (λ (q : Request). q.proxy) p.is;
      row = ap (λ (q : Request). q.row) p.is;
      previous = ap (λ (q : Request). q.previous) p.is;
      version = ap (λ (q : Request). q.version) p.is;
    }

pub follows_of : (config : Config) (v : RequestView) (p : IsRequestFor config v) → Follows config (take v.plain.row v.records) p.rec
follows_of config v p = p.history v.plain.row p.rec p.there

pub row_versions : (config : Config) (v : RequestView) → IsRequestFor config v → HasRowVersions config v.plain
row_versions config v p =
    let numbers = numbers_of config v p in
    let at = versions_at config v.records v.plain.row p.rec p.history p.there in
    let more : p.rec.version ≡ p.rec.previous + config.step = (follows_of config v p).version in
    record {
      previous = numbers.previous ∙ at.0;
      version = numbers.version ∙ more ∙ ap (λ (n : ℕ). n + config.step) (sym numbers.previous);
    }

-- ---- a reply

pub noted : (config : Config) (h : List Record) (rec : Record) (row r : ℕ) (reply : Reply) (column : Column) → IsHistory config h → slice_get h row ≡ Some rec → length h ≡ row + 1 → r < config.resolvers → length h ≤ length column → IsVerdictColumn config h r column
    → reply ≡ reply_of config (history_verdicts config h) r (take row h) rec → IsNotedReply config (record { reply = reply; records = h; column = column })
noted config h rec row r reply column history at last there cells verdicts is =
    record {
      rec = rec;
      history = history;
      last = last ∙ ap (λ (n : ℕ). n + 1) (sym row_is);
      there = subst (λ (n : ℕ). slice_get h n ≡ Some rec) (sym row_is) at;
      resolver = subst (λ (n : ℕ). n < config.resolvers) (sym resolver_is) there;
      cells = cells;
      verdicts = subst (λ (n : ℕ). IsVerdictColumn config h n column) (sym resolver_is) verdicts;
      reply_is = is ∙ (λ i. reply_of config (history_verdicts config h) (sym resolver_is i) (take (sym row_is i) h) rec);
    }
  where
    resolver_is : reply.resolver ≡ r
    resolver_is = ap (λ (one : Reply). one.resolver) is

    row_is : reply.row ≡ row
    row_is = ap (λ (one : Reply). one.row) is ∙ row_at config h row rec history at

pub reply_to_request : (config : Config) (q : RequestView) (p : IsRequestFor config q) (r : ℕ) (before : List Record) (reply : Reply) → q.plain.resolver ≡ r → reply ≡ reply_of config (history_verdicts config q.records) r before p.rec → IsReplyToRequest q.plain reply
reply_to_request config q p r before reply own is =
    let numbers = numbers_of config q p in
    record {
      resolver = ap (λ (one : Reply). one.resolver) is ∙ sym own;
      proxy = ap (λ (one : Reply). one.proxy) is ∙ sym numbers.proxy;
      row = ap (λ (one : Reply). one.row) is ∙ sym numbers.row;
      version = ap (λ (one : Reply). one.version) is ∙ sym numbers.version;
    }

-- ---- a request that comes next

-- the version last received at each record, and that at one record more
abbrev with_received : (received : Record → ℕ) (row last : ℕ) → Record → ℕ
with_received received row last s = if nat_eq s.row row then last else received s

-- a request that comes next at a locked resolver, and its record
pub record ComesNext (config : Config) (v : LockedResolverView) (q : RequestView) (rec : Record) : Type 0 where
  pub row : q.plain.row ≡ length v.records
  pub grown : q.records ≡ v.records ++ rec ∷ []
  pub there : slice_get q.records q.plain.row ≡ Some rec
  pub history : IsHistory config q.records
  pub is : q.plain ≡ request config rec q.plain.last_received v.memory.number
  pub own : q.plain.resolver ≡ v.memory.number
  pub received : q.plain.last_received ≤ rec.previous

-- the resolver's version is that of the last of its records
pub rows_of_resolver : (config : Config) (v : LockedResolverView) → IsLockedResolver config v → v.memory.version ≡ length v.records * config.step
rows_of_resolver config v keeps =
    keeps.stands.requests.version ∙ last_of_requests config keeps.stands.received v.memory.number v.records
    ∙ ap last_version (sym (take_all v.records (length v.records) (omega arith))) ∙ version_before config v.records (length v.records) keeps.history (omega arith)

pub comes_next : (config : Config) (v : LockedResolverView) (q : RequestView) (p : IsRequestFor config q) → IsLockedResolver config v → Agree 0 v.records 0 q.records → course v.memory q.plain ≡ Ok Judge → ComesNext config v q p.rec
comes_next config v q p keeps agree judged =
    record {
      row = row;
      grown = one_more v.records q.records p.rec agree (omega (arith, p.last, row)) (subst (λ (n : ℕ). slice_get q.records n ≡ Some p.rec) row p.there);
      there = p.there;
      history = p.history;
      is = p.is ∙ ap (request config p.rec q.plain.last_received) next.own;
      own = next.own;
      received = p.received;
    }
  where
    next : IsNext v.memory q.plain
    next = is_next v.memory q.plain judged

    row : q.plain.row ≡ length v.records
    row = same_rows q.plain.row (length v.records) config.step keeps.config_is.step.0 (sym (row_versions config q p).previous ∙ next.chained ∙ rows_of_resolver config v keeps)

-- the requests for the records before, and for the record, with the version last received at it
record ReceivedAt (config : Config) (v : LockedResolverView) (q : RequestView) (rec : Record) (stood : StandsForRecords config v.memory v.records) : Type 0 where
  received : Record → ℕ
  before : requests_for config received v.memory.number v.records ≡ requests_to config stood.received v.memory.number v.records
  own : q.plain ≡ request config rec (received rec) v.memory.number
  sooner : AreReceivedBefore received q.records

received_at : (config : Config) (v : LockedResolverView) (q : RequestView) (rec : Record) (stood : StandsForRecords config v.memory v.records) → IsHistory config v.records → ComesNext config v q rec → ReceivedAt config v q rec stood
received_at config v q rec stood history next = record { received = received; before = before; own = own; sooner = sooner }
  where
    received : Record → ℕ
    received = with_received stood.received q.plain.row q.plain.last_received

    other : (k : ℕ) (s : Record) → slice_get v.records k ≡ Some s → received s ≡ stood.received s
    other k s at =
        let within : k < length v.records = slice_get_within v.records k s at in
        let row : s.row ≡ k = row_at config v.records k s history at in
        let apart : nat_eq s.row q.plain.row ≡ false = ne_eqb s.row q.plain.row (λ same. let above = next.row in omega (arith, same, row, within, above)) in
        ap (λ (t : Bool). if t then q.plain.last_received else stood.received s) apart

    before : requests_for config received v.memory.number v.records ≡ requests_to config stood.received v.memory.number v.records
    before = map_each (λ (s : Record). request config s (received s) v.memory.number) (λ (s : Record). request config s (stood.received s) v.memory.number) v.records (λ k s at. ap (λ (n : ℕ). request config s n v.memory.number) (other k s at))

    here : nat_eq rec.row q.plain.row ≡ true
    here = eq-eqb rec.row q.plain.row (row_at config q.records q.plain.row rec next.history next.there)

    own : q.plain ≡ request config rec (received rec) v.memory.number
    own = next.is ∙ ap (λ (t : Bool). request config rec (if t then q.plain.last_received else stood.received rec) v.memory.number) (sym here)

    sooner : AreReceivedBefore received q.records
    sooner k s at = by (push_cases v.records rec k s (ap (λ (h : List Record). slice_get h k) (sym next.grown) ∙ at))
      where
        last : received rec ≡ q.plain.last_received
        last = ap (λ (t : Bool). if t then q.plain.last_received else stood.received rec) here

        by : ((k ≡ length v.records) × (rec ≡ s)) ⊎ ((k < length v.records) × (slice_get v.records k ≡ Some s)) → received s ≤ s.previous
        by (inl new) = subst (λ (one : Record). received one ≤ one.previous) new.1 (subst (λ (n : ℕ). n ≤ rec.previous) (sym last) next.received)
        by (inr old) = subst (λ (n : ℕ). n ≤ s.previous) (sym (other k s old.1)) (stood.before k s old.1)

before_next : (config : Config) (v : LockedResolverView) (q : RequestView) (rec : Record) → ComesNext config v q rec → take q.plain.row q.records ≡ v.records
before_next config v q rec next = ap (take q.plain.row) next.grown ∙ take_before v.records rec q.plain.row next.row

-- the reply to it is the definition's
pub reply_to_next : (config : Config) (v : LockedResolverView) (q : RequestView) (rec : Record) (reply : Reply) → IsLockedResolver config v → ComesNext config v q rec → RepliesAfterJudged v.memory q.plain reply → reply ≡ reply_of config (history_verdicts config q.records) v.memory.number (take q.plain.row q.records) rec
reply_to_next config v q rec reply keeps next replied =
    let at = received_at config v q rec keeps.stands keeps.history next in
    let front : requests_to config keeps.stands.received v.memory.number v.records ≡ requests_for config at.received v.memory.number (take q.plain.row q.records) =
    sym at.before ∙ ap (requests_for config at.received v.memory.number) (sym (before_next config v q rec next)) in
    replied (requests_to config keeps.stands.received v.memory.number v.records) keeps.stands.requests
    ∙ (λ i. request_reply (keeps.window i) (front i) (at.own i))
    ∙ request_reply_is config at.received q.records v.memory.number q.plain.row rec next.history next.there

-- what its resolver then keeps
pub kept_after_next : (config : Config) (v : LockedResolverView) (q : RequestView) (rec : Record) (reply : Reply) (memory : ResolverView) (column : Column) (closed : Bool) → IsLockedResolver config v → ComesNext config v q rec
    → RepliesAfterJudged v.memory q.plain reply → GainsRequest v.memory q.plain memory → memory.number ≡ v.memory.number → length memory.proxies ≡ length v.memory.proxies → memory.written.window ≡ v.memory.written.window
    → column ≡ v.column ++ reply.verdicts ∷ [] → IsLockedResolver config (record { memory = memory; records = q.records; column = column; closed = closed })
kept_after_next config v q rec reply memory column closed keeps next replied gains number proxies window grown =
    record {
      config_is = keeps.config_is;
      there = subst (λ (n : ℕ). n < config.resolvers) (sym number) keeps.there;
      history = next.history;
      cells = ap length grown ∙ length-append v.column (reply.verdicts ∷ []) ∙ ap (λ (n : ℕ). n + 1) keeps.cells ∙ sym (length-append v.records (rec ∷ [])) ∙ ap length (sym next.grown);
      verdicts = subst (λ (n : ℕ). IsVerdictColumn config q.records n column) (sym number) verdicts;
      proxies = proxies ∙ keeps.proxies;
      window = window ∙ keeps.window;
      stands =
          record {
            received = at.received;
            before = at.sooner;
            requests = subst (λ (qs : List Request). StandsForRequests memory qs) all (gains (requests_to config keeps.stands.received v.memory.number v.records) keeps.stands.requests);
          };
    }
  where
    at : ReceivedAt config v q rec keeps.stands
    at = received_at config v q rec keeps.stands keeps.history next

    all : requests_to config keeps.stands.received v.memory.number v.records ++ q.plain ∷ [] ≡ requests_to config at.received memory.number q.records
    all =
        (λ i. sym at.before i ++ at.own i ∷ [])
        ∙ sym (map-append (λ (s : Record). request config s (at.received s) v.memory.number) v.records (rec ∷ []))
        ∙ (λ i. requests_to config at.received (sym number i) (sym next.grown i))

    own_verdicts : reply.verdicts ≡ share_verdicts config v.memory.number v.records rec
    own_verdicts = ap (λ (r : Reply). r.verdicts) (reply_to_next config v q rec reply keeps next replied) ∙ ap (λ (h : List Record). share_verdicts config v.memory.number h rec) (before_next config v q rec next)

    verdicts : IsVerdictColumn config q.records v.memory.number column
    verdicts =
        subst (λ (h : List Record). IsVerdictColumn config h v.memory.number column) (sym next.grown)
        (subst (λ (c : Column). IsVerdictColumn config (v.records ++ rec ∷ []) v.memory.number c) (ap (λ (cell : List Verdict). v.column ++ cell ∷ []) (sym own_verdicts) ∙ sym grown)
        (column_more config v.records rec v.memory.number v.column keeps.verdicts keeps.cells))

-- and what the reply keeps
pub noted_next : (config : Config) (v : LockedResolverView) (q : RequestView) (rec : Record) (reply : Reply) (column : Column) → IsLockedResolver config v → ComesNext config v q rec → RepliesAfterJudged v.memory q.plain reply
    → length column ≡ length q.records → IsVerdictColumn config q.records v.memory.number column → IsNotedReply config (record { reply = reply; records = q.records; column = column })
noted_next config v q rec reply column keeps next replied cells verdicts =
    noted config q.records rec q.plain.row v.memory.number reply column next.history next.there (ap length next.grown ∙ length-append v.records (rec ∷ []) ∙ ap (λ (n : ℕ). n + 1) (sym next.row)) keeps.there (omega (arith, cells)) verdicts (reply_to_next config v q rec reply keeps next replied)

-- the version that its resolver comes to
version_after : (config : Config) (v : LockedResolverView) (q : RequestView) (rec : Record) (after : LockedResolverView) → IsLockedResolver config after → after.records ≡ q.records → ComesNext config v q rec → after.memory.version ≡ rec.version
version_after config v q rec after keeps records next =
    keeps.stands.requests.version ∙ last_of_requests config keeps.stands.received after.memory.number after.records ∙ ap last_version (records ∙ next.grown) ∙ last_version-push v.records rec

-- the answer of the definition on the course of judging
judged_answer : (memory : ResolverView) (q : Request) (reply : Reply) → course memory q ≡ Ok Judge → RepliesAfterJudged memory q reply → AnswerHas memory q (λ answer. answer ≡ Ok (offers.Judged reply))
judged_answer memory q reply judge replied judged stands =
    memory_answers memory judged q stands ∙ ap (answer_on_course (request_reply memory.written.window judged q)) judge ∙ ap (λ (one : Reply). Ok (offers.Judged one)) (sym (replied judged stands))

-- so the definition judges it
pub is_judged : (memory : ResolverView) (q : Request) → course memory q ≡ Ok Judge → AnswerHas memory q IsJudgedAnswer
is_judged memory q judge judged stands =
    (request_reply memory.written.window judged q, memory_answers memory judged q stands ∙ ap (answer_on_course (request_reply memory.written.window judged q)) judge)

-- and does not refuse it
pub is_served : (memory : ResolverView) (q : Request) → course memory q ≡ Ok Judge → AnswerHas memory q IsOk
is_served memory q judge judged stands = subst (λ (answer : OfferResult). IsOk answer) (sym (is_judged memory q judge judged stands).1) refl

pub has_judged : (config : Config) (v : LockedResolverView) (q : RequestView) (p : IsRequestFor config q) (after : LockedResolverView) (noted_reply : NotedReplyView) → IsLockedResolver config v → ComesNext config v q p.rec → course v.memory q.plain ≡ Ok Judge → RepliesAfterJudged v.memory q.plain noted_reply.reply → GainsRequest v.memory q.plain after.memory
    → IsLockedResolver config after → after.memory.number ≡ v.memory.number → after.records ≡ q.records → after.column ≡ v.column ++ noted_reply.reply.verdicts ∷ [] → after.closed ≡ v.closed → noted_reply.records ≡ q.records → noted_reply.column ≡ after.column
    → HasJudged v q after noted_reply
has_judged config v q p after noted_reply keeps next judge replied gains kept number records column closed noted_records noted_column =
    record {
      rec = p.rec;
      row = next.row;
      grown = next.grown;
      records = records;
      column = column;
      gains = gains;
      number = number;
      version = version_after config v q p.rec after kept records next ∙ sym (ap (λ (one : Reply). one.version) (reply_to_next config v q p.rec noted_reply.reply keeps next replied));
      closed = closed;
      noted_records = noted_records;
      noted_column = noted_column;
      answer = judged_answer v.memory q.plain noted_reply.reply judge replied;
    }

-- the column and the memory after the request was judged, and its reply
pub record IsJudging (config : Config) (v : LockedResolverView) (q : RequestView) (rec : Record) (memory : ResolverView) (reply : Reply) (column noted_column : ColumnView) : Type 0 where
  pub next : ComesNext config v q rec
  pub replied : RepliesAfterJudged v.memory q.plain reply
  pub gains : GainsRequest v.memory q.plain memory
  pub grown : column.rows.known ≡ v.column ++ reply.verdicts ∷ []
  pub first : column.rows.first ≡ 0
  pub own : column.resolver ≡ memory.number
  pub noted_is : noted_column ≡ column
  pub noted_own : noted_column.resolver ≡ reply.resolver
  pub kept : IsLockedResolver config (record { memory = memory; records = q.records; column = column.rows.known; closed = v.closed })
  pub noted : IsNotedReply config (record { reply = reply; records = q.records; column = noted_column.rows.known })
  pub number : memory.number ≡ v.memory.number

pub is_judging : (config : Config) (v : LockedResolverView) (q : RequestView) (p : IsRequestFor config q) (memory : ResolverView) (reply : Reply) (before column noted_column : ColumnView) (plain : Request) → IsLockedResolver config v → Agree 0 v.records 0 q.records → course v.memory q.plain ≡ Ok Judge → plain ≡ q.plain
    → before.rows.first ≡ 0 → before.rows.known ≡ v.column → before.resolver ≡ v.memory.number → RepliesAfterJudged v.memory plain reply → GainsRequest v.memory plain memory
    → column ≡ with_rows before (appended before.rows reply.verdicts) → noted_column ≡ column → memory.number ≡ v.memory.number → length memory.proxies ≡ length v.memory.proxies → memory.written.window ≡ v.memory.written.window
    → IsJudging config v q p.rec memory reply column noted_column
is_judging config v q p memory reply before column noted_column plain keeps agree judge plain_is first known own replied_plain gains_plain column_is noted_is number proxies window =
    record { next = next; replied = replied; gains = gains; grown = grown; first = first_after; own = own_after; noted_is = noted_is; noted_own = noted_own; kept = kept; noted = noted_next config v q p.rec reply noted_column.rows.known keeps next replied cells verdicts; number = number }
  where
    next : ComesNext config v q p.rec
    next = comes_next config v q p keeps agree judge

    replied : RepliesAfterJudged v.memory q.plain reply
    replied = subst (λ (one : Request). RepliesAfterJudged v.memory one reply) plain_is replied_plain

    gains : GainsRequest v.memory q.plain memory
    gains = subst (λ (one : Request). GainsRequest v.memory one memory) plain_is gains_plain

    grown : column.rows.known ≡ v.column ++ reply.verdicts ∷ []
    grown = ap (λ (c : ColumnView). c.rows.known) column_is ∙ ap (λ (cells : List (List Verdict)). cells ++ reply.verdicts ∷ []) known

    first_after : column.rows.first ≡ 0
    first_after = ap (λ (c : ColumnView). c.rows.first) column_is ∙ first

    own_after : column.resolver ≡ memory.number
    own_after = ap (λ (c : ColumnView). c.resolver) column_is ∙ own ∙ sym number

    noted_own : noted_column.resolver ≡ reply.resolver
    noted_own = ap (λ (c : ColumnView). c.resolver) (noted_is ∙ column_is) ∙ own ∙ sym (ap (λ (one : Reply). one.resolver) (reply_to_next config v q p.rec reply keeps next replied))

    kept : IsLockedResolver config (record { memory = memory; records = q.records; column = column.rows.known; closed = v.closed })
    kept = kept_after_next config v q p.rec reply memory column.rows.known v.closed keeps next replied gains number proxies window grown

    cells : length noted_column.rows.known ≡ length q.records
    cells = ap (λ (c : ColumnView). length c.rows.known) noted_is ∙ kept.cells

    verdicts : IsVerdictColumn config q.records v.memory.number noted_column.rows.known
    verdicts = subst (λ (n : ℕ). IsVerdictColumn config q.records n noted_column.rows.known) number (subst (λ (c : ColumnView). IsVerdictColumn config q.records memory.number c.rows.known) (sym noted_is) kept.verdicts)

-- what the offer has then done
pub offered_next : (config : Config) (v now : LockedResolverView) (q : RequestView) (p : IsRequestFor config q) (memory : ResolverView) (reply : Reply) (column noted_column : ColumnView) (after : LockedResolverView) (noted_reply : NotedReplyView) → v ≡ now → v.closed ≡ false → IsLockedResolver config v → course v.memory q.plain ≡ Ok Judge
    → IsJudging config v q p.rec memory reply column noted_column → after ≡ record { memory = memory; records = q.records; column = column.rows.known; closed = v.closed } → noted_reply ≡ record { reply = reply; records = q.records; column = noted_column.rows.known } → HasOffered now q after noted_reply
offered_next config v now q p memory reply column noted_column after noted_reply is is_open keeps judge judging after_is noted_reply_is =
    subst (λ (b : LockedResolverView). HasOffered b q after noted_reply) is
    (subst (λ (a : LockedResolverView). HasOffered v q a noted_reply) (sym after_is)
    (subst (λ (n : NotedReplyView). HasOffered v q judged_view n) (sym noted_reply_is)
    (record {
      is_open = is_open;
      own = judging.next.own;
      reply_to = reply_to_request config q p v.memory.number (take q.plain.row q.records) reply judging.next.own (reply_to_next config v q p.rec reply keeps judging.next judging.replied);
      done = inl (has_judged config v q p judged_view noted_view keeps judging.next judge judging.replied judging.gains judging.kept judging.number refl judging.grown refl refl (ap (λ (c : ColumnView). c.rows.known) judging.noted_is));
    })))
  where
    judged_view : LockedResolverView
    judged_view = record { memory = memory; records = q.records; column = column.rows.known; closed = v.closed }

    noted_view : NotedReplyView
    noted_view = record { reply = reply; records = q.records; column = noted_column.rows.known }

-- the ledger has a verdict cell for the row of a request that comes next
pub has_room : (cells : Cells) (v : LockedResolverView) (q : RequestView) (rec : Record) (before : ColumnView) (records : Stretch Record) → ComesNext cells.config v q rec → IsLockedResolver cells.config v → AllHaveRows cells → records ≡ record { first = 0; known = q.records } → IsWithin (length cells.records) records
    → before.rows.first ≡ 0 → before.rows.known ≡ v.column → before.resolver ≡ v.memory.number → end_of before.rows < length (verdict_cells cells before.resolver)
has_room cells v q rec before records next keeps all records_are within first known own =
    let count : length (verdict_cells cells before.resolver) ≡ length cells.records = all before.resolver (subst (λ (n : ℕ). n < cells.config.resolvers) (sym own) keeps.there) in
    let grown : length q.records ≡ length v.records + 1 = ap length next.grown ∙ length-append v.records (rec ∷ []) in
    let held : length records.known ≡ length q.records = ap (λ (s : Stretch Record). length s.known) records_are in
    let from : records.first ≡ 0 = ap (λ (s : Stretch Record). s.first) records_are in
    let end : end_of records ≤ length cells.records = within (omega (arith, held, grown)) in
    let many : length before.rows.known ≡ length v.records = ap length known ∙ keeps.cells in
    omega (arith, count, grown, held, from, end, many, first)

-- ---- a request that was judged before

-- the answer to a request that does not come next is no judging
pub not_judged : (memory : ResolverView) (judged : List Request) (q : Request) (reply : Reply) → StandsForRequests memory judged → (course memory q ≡ Ok Judge → ⊥) → answer_to memory.number (length memory.proxies) memory.written.window judged q ≡ Ok (offers.Judged reply) → ⊥
not_judged memory judged q reply stands other answered = by (course memory q) refl (sym (memory_answers memory judged q stands) ∙ answered)
  where
    by : (way : Result Decision OfferFault) → course memory q ≡ way → answer_on_course (request_reply memory.written.window judged q) way ≡ Ok (offers.Judged reply) → ⊥
    by (Ok (GiveAgain kept)) is same = absurd (cc)
    by (Ok Judge) is same = other is
    by (Err fault) is same = absurd (cc)

-- an answer that is a reply is one of the resolver that the request is to
own_of_answer : (number proxies window : ℕ) (judged : List Request) (q : Request) (reply : Reply) → answer_to number proxies window judged q ≡ Ok (offers.Again reply) → q.resolver ≡ number
unfolding answer_to
own_of_answer number proxies window judged q reply answered = by (nat_eq q.resolver number) refl answered
  where
    rest : OfferResult
    rest =
        if nat_le proxies q.proxy then Err offers.NoSuchProxy
        else if not (is_in_order q) then Err (offers.OutsideChain (last_request_version judged))
        else answer_in_order window judged (last_request_version judged) q

    by : (t : Bool) → nat_eq q.resolver number ≡ t → (if not t then Err offers.WrongResolver else rest) ≡ Ok (offers.Again reply) → q.resolver ≡ number
    by true is same = eqb-true q.resolver number is
    by false is same = absurd (cc)

-- a request that was judged before at a locked resolver, and the reply that it gets again
pub record WasJudged (config : Config) (v : LockedResolverView) (q : RequestView) (rec : Record) (reply : Reply) : Type 0 where
  pub row : q.plain.row < length v.records
  pub own : q.plain.resolver ≡ v.memory.number
  pub records : take (q.plain.row + 1) v.records ≡ q.records
  pub reply_is : reply ≡ reply_of config (history_verdicts config q.records) v.memory.number (take q.plain.row q.records) rec

-- the numbers of a request and of that for its record are the same
before_is_newer : (config : Config) (rec : Record) (received r : ℕ) (judged : List Request) (q : Request) → HasNumbersOf q rec → acknowledged_requests q.proxy judged < q.version → acknowledged_requests (request config rec received r).proxy judged < (request config rec received r).version
unfolding request_back_to
before_is_newer config rec received r judged q numbers newer = subst (λ (n : ℕ). acknowledged_requests rec.proxy judged < n) numbers.version (subst (λ (n : ℕ). acknowledged_requests n judged < q.version) numbers.proxy newer)

at_numbers : {X : Type 0} (config : Config) (rec : Record) (received r : ℕ) (f : ℕ → ℕ → X) (q : Request) → HasNumbersOf q rec → f q.version q.proxy ≡ f (request config rec received r).version (request config rec received r).proxy
unfolding request_back_to
at_numbers config rec received r f q numbers = λ i. f (numbers.version i) (numbers.proxy i)

-- where the reply is the one that was given to the request judged for its row
found_again : (config : Config) (v : LockedResolverView) (q : RequestView) (p : IsRequestFor config q) (reply : Reply) (received : Record → ℕ) → IsLockedResolver config v → Agree 0 v.records 0 q.records → q.plain.resolver ≡ v.memory.number → q.plain.row < length v.records
    → reply ≡ request_reply config.window (take q.plain.row (requests_for config received v.memory.number v.records)) (request config p.rec (received p.rec) v.memory.number) → WasJudged config v q p.rec reply
found_again config v q p reply received keeps agree own below is =
    record { row = below; own = own; records = records; reply_is = told ∙ here }
  where
    records : take (q.plain.row + 1) v.records ≡ q.records
    records = first_same (q.plain.row + 1) v.records q.records agree (omega (arith, below)) (omega (arith, p.last)) ∙ take_all q.records (q.plain.row + 1) (omega (arith, p.last))

    at : slice_get v.records q.plain.row ≡ Some p.rec
    at = let one = element_at v.records q.plain.row below in one.1 ∙ ap Some (agree q.plain.row q.plain.row one.0 p.rec refl one.1 p.there)

    told : reply ≡ reply_of config (history_verdicts config v.records) v.memory.number (take q.plain.row v.records) p.rec
    told =
        is
        ∙ ap (λ (before : List Request). request_reply config.window before (request config p.rec (received p.rec) v.memory.number)) (take-map (λ (s : Record). request config s (received s) v.memory.number) q.plain.row v.records)
        ∙ request_reply_is config received v.records v.memory.number q.plain.row p.rec keeps.history at

    here : reply_of config (history_verdicts config v.records) v.memory.number (take q.plain.row v.records) p.rec ≡ reply_of config (history_verdicts config q.records) v.memory.number (take q.plain.row q.records) p.rec
    here =
        let (later, split) = beginning_of v.records (q.plain.row + 1) in
        let all : v.records ≡ q.records ++ later = split ∙ ap (λ (h : List Record). h ++ later) records in
        ap (λ (h : List Record). reply_of config (history_verdicts config h) v.memory.number (take q.plain.row h) p.rec) all
        ∙ replies_later config q.records later v.memory.number q.plain.row p.rec p.history p.there

abbrev same_answer : OfferResult → OfferResult → Type 0
same_answer one other = one ≡ other

-- one answer again is one reply
again_is : {one other : Reply} → same_answer (Ok (offers.Again one)) (Ok (offers.Again other)) → one ≡ other
again_is {one} {other} same = cc

-- a request that gets a reply again was judged before, and the reply is the definition's
pub was_judged : (config : Config) (v : LockedResolverView) (q : RequestView) (p : IsRequestFor config q) (reply : Reply) → IsLockedResolver config v → Agree 0 v.records 0 q.records → AnswerHas v.memory q.plain (λ answer. answer ≡ Ok (offers.Again reply)) → WasJudged config v q p.rec reply
was_judged config v q p reply keeps agree answered = by (cases_order q.plain.row (length v.records))
  where
    received : Record → ℕ
    received = keeps.stands.received

    judged : List Request
    judged = requests_to config keeps.stands.received v.memory.number v.records

    last : ℕ
    last = last_request_version judged

    last_is : last ≡ length v.records * config.step
    last_is =
        last_of_requests config keeps.stands.received v.memory.number v.records
        ∙ ap last_version (sym (take_all v.records (length v.records) (omega arith))) ∙ version_before config v.records (length v.records) keeps.history (omega arith)

    versions : HasRowVersions config q.plain
    versions = row_versions config q p

    stepping : 1 ≤ config.step
    stepping = keeps.config_is.step.0

    told : answer_to v.memory.number (length v.memory.proxies) v.memory.written.window judged q.plain ≡ Ok (offers.Again reply)
    told = answered judged keeps.stands.requests

    own : q.plain.resolver ≡ v.memory.number
    own = own_of_answer v.memory.number (length v.memory.proxies) v.memory.written.window judged q.plain reply told

    proxy_there : q.plain.proxy < length v.memory.proxies
    proxy_there = let there = (follows_of config q p).proxy in omega (arith, there, (numbers_of config q p).proxy, keeps.proxies)

    rises : q.plain.previous < q.plain.version
    rises = omega (arith, versions.version, stepping)

    had : q.plain.last_received ≤ q.plain.previous
    had = omega (arith, p.received, (numbers_of config q p).previous)

    in_order : answer_in_order v.memory.written.window judged last q.plain ≡ Ok (offers.Again reply)
    in_order = sym (answer_known v.memory.number (length v.memory.proxies) v.memory.written.window judged q.plain own proxy_there rises had) ∙ told

    by : (q.plain.row ≡ length v.records) ⊎ ((q.plain.row < length v.records) ⊎ (length v.records < q.plain.row)) → WasJudged config v q p.rec reply
    by (inl next) =
        let chained : q.plain.previous ≡ last = versions.previous ∙ ap (λ (n : ℕ). n * config.step) next ∙ sym last_is in
        let answer = sym (answer_judged v.memory.written.window judged last q.plain chained rises) ∙ in_order in
        absurd (cc)
    by (inr (inr early)) =
        let more : length v.records * config.step < q.plain.row * config.step = mul-lt-mul_of_pos_right early (omega (arith, stepping)) in
        let before : last < q.plain.previous = omega (arith, last_is, versions.previous, more) in
        let answer = sym (answer_early v.memory.written.window judged last q.plain before rises) ∙ in_order in
        absurd (cc)
    by (inr (inl below)) = kept (nat_le q.plain.version (acknowledged_requests q.plain.proxy judged)) refl
      where
        at : slice_get v.records q.plain.row ≡ Some p.rec
        at = let one = element_at v.records q.plain.row below in one.1 ∙ ap Some (agree q.plain.row q.plain.row one.0 p.rec refl one.1 p.there)

        passed : q.plain.version ≤ last
        passed =
            let version : q.plain.version ≡ p.rec.version = (numbers_of config q p).version in
            let up : p.rec.version ≤ last_version (take (length v.records) v.records) = up_to_front config v.records (length v.records) q.plain.row p.rec keeps.history below at in
            let all : last_version (take (length v.records) v.records) ≡ last = ap last_version (take_all v.records (length v.records) (omega arith)) ∙ sym (last_of_requests config keeps.stands.received v.memory.number v.records) in
            omega (arith, version, up, all)

        again : answer_again (reply_at q.plain.version (kept_replies v.memory.written.window judged q.plain.proxy)) q.plain.version (acknowledged_requests q.plain.proxy judged) last ≡ Ok (offers.Again reply)
        again = sym (answer_repeat v.memory.written.window judged last q.plain passed) ∙ in_order

        before_request : Request
        before_request = request config p.rec (received p.rec) v.memory.number

        judged_at : slice_get judged q.plain.row ≡ Some before_request
        judged_at = slice_get-map (λ (s : Record). request config s (received s) v.memory.number) v.records q.plain.row ∙ ap (option_map (λ (s : Record). request config s (received s) v.memory.number)) at

        kept : (t : Bool) → nat_le q.plain.version (acknowledged_requests q.plain.proxy judged) ≡ t → WasJudged config v q p.rec reply
        kept true up_to =
            let none = given_up v.memory.written.window judged q.plain.proxy q.plain.version (leb-true q.plain.version (acknowledged_requests q.plain.proxy judged) up_to) in
            let nothing : answer_again None q.plain.version (acknowledged_requests q.plain.proxy judged) last ≡ Ok (offers.Again reply) = subst (λ (one : Option Reply). answer_again one q.plain.version (acknowledged_requests q.plain.proxy judged) last ≡ Ok (offers.Again reply)) none again in
            absurd (refused (nat_le q.plain.version (acknowledged_requests q.plain.proxy judged)) nothing)
          where
            refused : (t : Bool) → (if t then Err (offers.GivenUp (acknowledged_requests q.plain.proxy judged)) else Err (offers.OutsideChain last)) ≡ Ok (offers.Again reply) → ⊥
            refused true same = cc
            refused false same = cc
        kept false above = found_again config v q p reply received keeps agree own below is
          where
            numbers : HasNumbersOf q.plain p.rec
            numbers = numbers_of config q p

            newer : acknowledged_requests before_request.proxy judged < before_request.version
            newer = before_is_newer config p.rec (received p.rec) v.memory.number judged q.plain numbers (leb-false q.plain.version (acknowledged_requests q.plain.proxy judged) above)

            one : reply_at before_request.version (kept_replies v.memory.written.window judged before_request.proxy) ≡ Some (request_reply v.memory.written.window (take q.plain.row judged) before_request)
            one = kept_at v.memory.number (length v.memory.proxies) v.memory.written.window judged q.plain.row before_request keeps.stands.requests.in_turn judged_at newer

            here : reply_at q.plain.version (kept_replies v.memory.written.window judged q.plain.proxy) ≡ Some (request_reply v.memory.written.window (take q.plain.row judged) before_request)
            here = at_numbers config p.rec (received p.rec) v.memory.number (λ (version proxy : ℕ). reply_at version (kept_replies v.memory.written.window judged proxy)) q.plain numbers ∙ one

            given : OfferResult
            given = Ok (offers.Again (request_reply v.memory.written.window (take q.plain.row judged) before_request))

            same : given ≡ Ok (offers.Again reply)
            same = subst (λ (found : Option Reply). answer_again found q.plain.version (acknowledged_requests q.plain.proxy judged) last ≡ Ok (offers.Again reply)) here again

            is : reply ≡ request_reply config.window (take q.plain.row judged) before_request
            is = let back : request_reply v.memory.written.window (take q.plain.row judged) before_request ≡ reply = again_is same in sym back ∙ ap (λ (window : ℕ). request_reply window (take q.plain.row judged) before_request) keeps.window

-- what its resolver gives is unchanged, and the reply keeps what it was made by
pub noted_again : (config : Config) (v : LockedResolverView) (q : RequestView) (p : IsRequestFor config q) (reply : Reply) → IsLockedResolver config v → WasJudged config v q p.rec reply → IsNotedReply config (record { reply = reply; records = q.records; column = v.column })
noted_again config v q p reply keeps was =
    noted config q.records p.rec q.plain.row v.memory.number reply v.column p.history p.there p.last keeps.there (omega (arith, p.last, was.row, keeps.cells))
    (subst (λ (h : List Record). IsVerdictColumn config h v.memory.number v.column) was.records (column_first config v.records v.memory.number (q.plain.row + 1) v.column keeps.verdicts))
    was.reply_is

pub has_repeated : (config : Config) (v : LockedResolverView) (q : RequestView) (p : IsRequestFor config q) (after : LockedResolverView) (noted_reply : NotedReplyView) → IsLockedResolver config v → WasJudged config v q p.rec noted_reply.reply → AnswerHas v.memory q.plain (λ answer. answer ≡ Ok (offers.Again noted_reply.reply))
    → after ≡ v → noted_reply.records ≡ q.records → noted_reply.column ≡ v.column → HasRepeated v q after noted_reply
has_repeated config v q p after noted_reply keeps was answered same noted_records noted_column =
    record { row = was.row; unchanged = same; version = version; records = was.records; noted_records = noted_records; noted_column = noted_column; answer = answered }
  where
    at : slice_get v.records q.plain.row ≡ Some p.rec
    at = subst (λ (h : List Record). slice_get h q.plain.row ≡ Some p.rec → slice_get v.records q.plain.row ≡ Some p.rec) was.records (λ there. (slice_get-take v.records (q.plain.row + 1) q.plain.row p.rec there).1) p.there

    version : noted_reply.reply.version ≤ v.memory.version
    version =
        let is : noted_reply.reply.version ≡ p.rec.version = ap (λ (one : Reply). one.version) was.reply_is in
        let up : p.rec.version ≤ last_version (take (length v.records) v.records) = up_to_front config v.records (length v.records) q.plain.row p.rec keeps.history was.row at in
        let all : last_version (take (length v.records) v.records) ≡ v.memory.version = ap last_version (take_all v.records (length v.records) (omega arith)) ∙ sym (keeps.stands.requests.version ∙ last_of_requests config keeps.stands.received v.memory.number v.records) in
        omega (arith, is, up, all)

-- the reply that is given again
pub record IsRepeating (config : Config) (v : LockedResolverView) (q : RequestView) (rec : Record) (reply : Reply) : Type 0 where
  pub answers : AnswerHas v.memory q.plain (λ answer. answer ≡ Ok (offers.Again reply))
  pub was : WasJudged config v q rec reply
  pub noted : IsNotedReply config (record { reply = reply; records = q.records; column = v.column })
  pub own : v.memory.number ≡ reply.resolver

pub is_repeating : (config : Config) (v : LockedResolverView) (q : RequestView) (p : IsRequestFor config q) (reply : Reply) (answer : OfferAnswer) (plain : Request) → IsLockedResolver config v → Agree 0 v.records 0 q.records → plain ≡ q.plain → answer ≡ answers.Again reply → AnswersAfterJudged v.memory plain (Ok answer) → IsRepeating config v q p.rec reply
is_repeating config v q p reply answer plain keeps agree plain_is is answered = record { answers = again; was = was; noted = noted_again config v q p reply keeps was; own = sym (ap (λ (one : Reply). one.resolver) was.reply_is) }
  where
    again : AnswerHas v.memory q.plain (λ answer. answer ≡ Ok (offers.Again reply))
    again = subst (λ (one : Request). AnswerHas v.memory one (λ found. found ≡ Ok (offers.Again reply))) plain_is (λ judged stands. answered judged stands ∙ ap (λ (one : OfferAnswer). Ok (offer_answer_of one)) is)

    was : WasJudged config v q p.rec reply
    was = was_judged config v q p reply keeps agree again

-- what the offer has then done
pub offered_again : (config : Config) (v now : LockedResolverView) (q : RequestView) (p : IsRequestFor config q) (reply : Reply) (after : LockedResolverView) (noted_reply : NotedReplyView) → v ≡ now → v.closed ≡ false → IsLockedResolver config v → IsRepeating config v q p.rec reply → after ≡ v → noted_reply ≡ record { reply = reply; records = q.records; column = v.column } → HasOffered now q after noted_reply
offered_again config v now q p reply after noted_reply is is_open keeps repeating after_is noted_reply_is =
    subst (λ (b : LockedResolverView). HasOffered b q after noted_reply) is
    (subst (λ (n : NotedReplyView). HasOffered v q after n) (sym noted_reply_is)
    (record {
      is_open = is_open;
      own = repeating.was.own;
      reply_to = reply_to_request config q p v.memory.number (take q.plain.row q.records) reply repeating.was.own repeating.was.reply_is;
      done = inr (has_repeated config v q p after (record { reply = reply; records = q.records; column = v.column }) keeps repeating.was repeating.answers after_is refl refl);
    }))

-- a request that does not come next is not judged
pub never_judged : (config : Config) (v : LockedResolverView) (q : RequestView) (reply : Reply) (answer : OfferAnswer) (plain : Request) → IsLockedResolver config v → (course v.memory q.plain ≡ Ok Judge → ⊥) → plain ≡ q.plain → answer ≡ answers.Judged reply → AnswersAfterJudged v.memory plain (Ok answer) → ⊥
never_judged config v q reply answer plain keeps other plain_is is answered =
    not_judged v.memory (requests_to config keeps.stands.received v.memory.number v.records) q.plain reply keeps.stands.requests other
    (ap (λ (one : Request). answer_to v.memory.number (length v.memory.proxies) v.memory.written.window (requests_to config keeps.stands.received v.memory.number v.records) one) (sym plain_is) ∙ answered (requests_to config keeps.stands.received v.memory.number v.records) keeps.stands.requests ∙ ap (λ (one : OfferAnswer). Ok (offer_answer_of one)) is)

-- ---- a resolver before its first request

pub new_keeps : (config : Config) (v : LockedResolverView) → IsConfig config → v.memory.number < config.resolvers → v.records ≡ [] → v.column ≡ [] → length v.memory.proxies ≡ config.proxies → v.memory.written.window ≡ config.window → StandsForRequests v.memory [] → IsLockedResolver config v
new_keeps config v limits there records column proxies window stands =
    record {
      config_is = limits;
      there = there;
      history = subst (λ (h : List Record). IsHistory config h) (sym records) (λ i rec at. absurd (cc));
      cells = ap length column ∙ sym (ap length records);
      verdicts = subst (λ (h : List Record). IsVerdictColumn config h v.memory.number v.column) (sym records) (λ i rec at. absurd (cc));
      proxies = proxies;
      window = window;
      stands =
          record {
            received = λ (rec : Record). 0;
            before = λ row rec at. omega arith;
            requests = subst (λ (h : List Record). StandsForRequests v.memory (requests_to config (λ (rec : Record). 0) v.memory.number h)) (sym records) stands;
          };
    }

-- ---- refusals

-- each refusal of the resolver comes only by its cause
pub refused : (v : LockedResolverView) (q : Request) (refusal : OfferRefusal) → v.closed ≡ false → AnswersAfterJudged v.memory q (Err refusal) → IsOfferRefusal v q (of_offer refusal)
refused v q offered.WrongResolver is_open answers = (is_open, answers)
refused v q offered.NoSuchProxy is_open answers = (is_open, answers)
refused v q (offered.OutsideChain version) is_open answers = (is_open, answers)
refused v q (offered.GivenUp acknowledged) is_open answers = (is_open, answers)
refused v q (offered.Early version) is_open answers = (is_open, answers)
refused v q offered.OutOfMemory is_open answers = (is_open, answers)

-- and leaves the resolver as it was
pub unchanged : (v : LockedResolverView) (refusal : OfferRefusal) → v ≡ after_refusal v (of_offer refusal)
unchanged v offered.WrongResolver = refl
unchanged v offered.NoSuchProxy = refl
unchanged v (offered.OutsideChain version) = refl
unchanged v (offered.GivenUp acknowledged) = refl
unchanged v (offered.Early version) = refl
unchanged v offered.OutOfMemory = refl

-- an allocation that fails before a request that comes next is judged
pub served_next : (v : LockedResolverView) (q : Request) → v.closed ≡ false → course v.memory q ≡ Ok Judge → IsOfferRefusal v q refusals.OutOfMemory
served_next v q is_open judge = (is_open, is_served v.memory q judge)

-- a request that comes next is refused only so
pub late_refusal : (v : LockedResolverView) (q : Request) (why : NotSet NotedVerdicts) → v.closed ≡ false → course v.memory q ≡ Ok Judge → IsOfferRefusal v q (of_unset why)
late_refusal v q unset.OutOfMemory is_open judge = served_next v q is_open judge
late_refusal v q (unset.Taken note) is_open judge = (is_open, is_judged v.memory q judge)

-- with a note of the cell where that was taken
pub tells_cell : (row r : ℕ) (why : NotSet NotedVerdicts) → IfTaken why (AreKnownAt row r) → TellsTaken row r (of_unset why) (taken_note why)
tells_cell row r unset.OutOfMemory known = refl
tells_cell row r (unset.Taken note) known = (note, refl, known)

-- the cell is that of the request's row and of the resolver
pub tells_next : (config : Config) (v : LockedResolverView) (q : RequestView) (rec : Record) (before : ColumnView) (why : NotSet NotedVerdicts) → ComesNext config v q rec → IsLockedResolver config v → before.rows.first ≡ 0 → before.rows.known ≡ v.column → before.resolver ≡ v.memory.number
    → IfTaken why (AreKnownAt (end_of before.rows) before.resolver) → TellsTaken q.plain.row v.memory.number (of_unset why) (taken_note why)
tells_next config v q rec before why next keeps first known own told =
    let many : length before.rows.known ≡ length v.records = ap length known ∙ keeps.cells in
    let row : end_of before.rows ≡ q.plain.row = let is = next.row in omega (arith, many, first, is) in
    tells_cell q.plain.row v.memory.number why
    (subst (λ (n : ℕ). IfTaken why (AreKnownAt n v.memory.number)) row
    (subst (λ (n : ℕ). IfTaken why (AreKnownAt (end_of before.rows) n)) own told))

-- no refusal of the definition is that of a taken cell
pub tells_nothing : (row r : ℕ) (refusal : OfferRefusal) → TellsTaken row r (of_offer refusal) None
tells_nothing row r offered.WrongResolver = refl
tells_nothing row r offered.NoSuchProxy = refl
tells_nothing row r (offered.OutsideChain version) = refl
tells_nothing row r (offered.GivenUp acknowledged) = refl
tells_nothing row r (offered.Early version) = refl
tells_nothing row r offered.OutOfMemory = refl

-- a request that gets a reply again is not refused
pub again_served : (memory : ResolverView) (q : Request) (reply : Reply) → AnswerHas memory q (λ answer. answer ≡ Ok (offers.Again reply)) → AnswerHas memory q IsOk
again_served memory q reply answers judged stands = subst (λ (answer : OfferResult). IsOk answer) (sym (answers judged stands)) refl

-- the definition refuses a request as early only if it is to the resolver, and comes after its version
early_answer : (number proxies window : ℕ) (judged : List Request) (q : Request) (version : ℕ) → answer_to number proxies window judged q ≡ Err (offers.Early version) → (q.resolver ≡ number) × (last_request_version judged < q.previous)
unfolding answer_to
early_answer number proxies window judged q version answered = owned (nat_eq q.resolver number) refl answered
  where
    last : ℕ
    last = last_request_version judged

    again : (kept : Option Reply) → same_answer (answer_again kept q.version (acknowledged_requests q.proxy judged) last) (Err (offers.Early version)) → ⊥
    again (Some reply) same = cc
    again None same = by (nat_le q.version (acknowledged_requests q.proxy judged)) same
      where
        by : (t : Bool) → same_answer (if t then Err (offers.GivenUp (acknowledged_requests q.proxy judged)) else Err (offers.OutsideChain last)) (Err (offers.Early version)) → ⊥
        by true same = cc
        by false same = cc

    tests : q.resolver ≡ number → (unknown in_order passed early late : Bool) → nat_lt last q.previous ≡ early → same_answer (if unknown then Err offers.NoSuchProxy
        else if not in_order then Err (offers.OutsideChain last)
        else if passed then answer_again (reply_at q.version (kept_replies window judged q.proxy)) q.version (acknowledged_requests q.proxy judged) last
        else if early then Err (offers.Early last)
        else if late then Err (offers.OutsideChain last)
        else Ok (offers.Judged (request_reply window judged q))) (Err (offers.Early version)) → (q.resolver ≡ number) × (last < q.previous)
    tests own true in_order passed early late is same = absurd (cc)
    tests own false false passed early late is same = absurd (cc)
    tests own false true true early late is same = absurd (again (reply_at q.version (kept_replies window judged q.proxy)) same)
    tests own false true false true late is same = (own, ltb-true last q.previous is)
    tests own false true false false true is same = absurd (cc)
    tests own false true false false false is same = absurd (cc)

    owned : (t : Bool) → nat_eq q.resolver number ≡ t → same_answer (if not t then Err offers.WrongResolver
        else if nat_le proxies q.proxy then Err offers.NoSuchProxy
        else if not (is_in_order q) then Err (offers.OutsideChain last)
        else answer_in_order window judged last q) (Err (offers.Early version)) → (q.resolver ≡ number) × (last < q.previous)
    owned true is same = tests (eqb-true q.resolver number is) (nat_le proxies q.proxy) (is_in_order q) (nat_le q.version last) (nat_lt last q.previous) (nat_lt q.previous last) refl same
    owned false is same = absurd (cc)

-- such a request has to wait
early_waits : (config : Config) (v : LockedResolverView) (q : Request) (version : ℕ) → IsLockedResolver config v → is_early v q ≡ false → v.closed ≡ false → AnswerHas v.memory q (λ answer. answer ≡ Err (offers.Early version)) → ⊥
early_waits config v q version keeps waits is_open answers =
    let found = early_answer v.memory.number (length v.memory.proxies) v.memory.written.window judged q version (answers judged keeps.stands.requests) in
    let own : nat_eq q.resolver v.memory.number ≡ true = eq-eqb q.resolver v.memory.number found.0 in
    let after : nat_lt v.memory.version q.previous ≡ true = lt-ltb v.memory.version q.previous (let at = keeps.stands.requests.version in omega (arith, found.1, at)) in
    let early : is_early v q ≡ true = (λ i. not (is_open i) && own i && after i) in
    let both : true ≡ false = sym early ∙ waits in
    cc
  where
    judged : List Request
    judged = requests_to config keeps.stands.received v.memory.number v.records

-- a request that need not wait is not refused as early
pub not_early : (config : Config) (v : LockedResolverView) (q : Request) (refusal : Refusal) → IsLockedResolver config v → is_early v q ≡ false → IsOfferRefusal v q refusal → IsNotEarly refusal
not_early config v q (refusals.Early version) keeps waits refused = early_waits config v q version keeps waits refused.0 refused.1
not_early config v q (refusals.GivenUp acknowledged) keeps waits refused = tt
not_early config v q refusals.NoSuchProxy keeps waits refused = tt
not_early config v q refusals.WrongResolver keeps waits refused = tt
not_early config v q (refusals.OutsideChain version) keeps waits refused = tt
not_early config v q refusals.NotMine keeps waits refused = tt
not_early config v q (refusals.OutOfOrder expected) keeps waits refused = tt
not_early config v q (refusals.OutOfTurn expected) keeps waits refused = tt
not_early config v q (refusals.NotReached version) keeps waits refused = tt
not_early config v q refusals.CellTaken keeps waits refused = tt
not_early config v q refusals.Closed keeps waits refused = tt
not_early config v q refusals.OutOfMemory keeps waits refused = tt

-- ---- the resolver that is shown with the reply

pub shown : (config : Config) (v : LockedResolverView) (q : RequestView) (after : LockedResolverView) (noted_reply : NotedReplyView) → HasOffered v q after noted_reply → ShowsReply q noted_reply after
shown config v q after noted_reply offered = by offered.done
  where
    by : HasJudged v q after noted_reply ⊎ HasRepeated v q after noted_reply → ShowsReply q noted_reply after
    by (inl judged) =
        record {
          is_open = judged.closed ∙ offered.is_open;
          number = judged.number ∙ sym offered.own ∙ sym offered.reply_to.resolver;
          reply_to = offered.reply_to;
          reached = omega (arith, judged.version);
          noted_records = judged.noted_records;
          records = ap (take (q.plain.row + 1)) judged.records ∙ take_all q.records (q.plain.row + 1) (let count = ap length judged.grown ∙ length-append v.records (judged.rec ∷ []) in omega (arith, count, judged.row));
          column = judged.noted_column;
        }
    by (inr repeated) =
        record {
          is_open = ap (λ (r : LockedResolverView). r.closed) repeated.unchanged ∙ offered.is_open;
          number = ap (λ (r : LockedResolverView). r.memory.number) repeated.unchanged ∙ sym offered.own ∙ sym offered.reply_to.resolver;
          reply_to = offered.reply_to;
          reached = let same = ap (λ (r : LockedResolverView). r.memory.version) repeated.unchanged in omega (arith, repeated.version, same);
          noted_records = repeated.noted_records;
          records = ap (λ (r : LockedResolverView). take (q.plain.row + 1) r.records) repeated.unchanged ∙ repeated.records;
          column = repeated.noted_column ∙ ap (λ (r : LockedResolverView). r.column) (sym repeated.unchanged);
        }
