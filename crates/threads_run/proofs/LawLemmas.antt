-- What the text of a threads script says.
use Rattle.std.proofs.Common.{◌≡◌, ◌∙◌, ◌++◌, ◌+◌, ◌-◌, ◌*◌, ◌<◌, ◌≤◌, ℕ, zero, suc, List, [], ◌∷◌, codes, length, length-append, append-nil, map, take, add-one, ap, subst, sym, refl, arith}
use Rattle.std.specs.Prelude.{Ok, Err, All, Option, Some, option_map, false, true, slice_get, sum_by}
use Rattle.std.specs.Fmt.{decimal}
use Rattle.std.proofs.lemmas.List.Sums.{sum_by-append}
use Rattle.std.proofs.lemmas.List.Elements.{All-cons, All-head, All-nil}
use Rattle.std.proofs.lemmas.Option.{get_or_from_slice_get, none-some, same_Some, slice_get-map, slice_get_within}
use Rattle.model.specs.Configs.{Config}
use Rattle.model.specs.Records.{Record, IsHistory, last_version, records_of_proxy}
use Rattle.model.specs.Stamps.{AdmittedTransaction}
use Rattle.model.proofs.History.Chain.{version_before}
use Rattle.model.proofs.History.Growth.{own_version_up_to}
use Rattle.agreed_ledger.specs.declared.refusal.Refusal.TheVariants as refusals
use Rattle.inboxes.specs.declared.views.MessageKind.TheVariants as kinds
use Rattle.inboxes.specs.declared.views.MessageView.{MessageView}
use Rattle.inboxes.specs.Delivers.{of_proxy}
use Rattle.inboxes.specs.Ends.{ProxyView, SenderView}
use Rattle.inboxes.specs.Sending.{ends_in}
use Rattle.inboxes.specs.MessageViews.{close_view, end_view}
use Rattle.inboxes.proofs.Sent.{one_end}
use Rattle.locked_cluster.specs.Proxies.{LockedProxyView}
use Rattle.locked_resolvers.specs.Resolvers.{LockedResolverView}
use Rattle.locked_resolvers.proofs.Lists.{take_all, take_next}
use Rattle.locked_resolvers.proofs.ServedRequests.{rows_of_resolver}
use Rattle.scripts.specs.Lines.{spaced}
use Rattle.workers.specs.Workers.{EndedView}
use Rattle.threads_lines.specs.Answers.{AnswersBatch, AreLinesOfProxy, IsBatchLine, IsClosingLine}
use Rattle.threads_lines.specs.Histories.{HasFinishedAll, HasJudgedAll, IsStartOf, Known, nothing_known}
use Rattle.threads_lines.specs.Laws.{HaveVersionOf, one_of, reached_by_all}
use Rattle.threads_lines.specs.Lines.{CommitResult, closing_line}
use Rattle.threads_lines.specs.Meetings.{AreMeetingLines, IsAuditLine, audit_line}
use Rattle.threads_lines.specs.Moves.{dated}
use Rattle.threads_lines.specs.Parts.{IsInParts, IsInTurns}
use Rattle.threads_lines.proofs.CheckLemmas.{all_at}
use Rattle.threads_lines.proofs.LawLemmas.{an_audit_is_ok_if_all_have_reached}
use Rattle.threads_run.specs.Delivered.{AreRequestsAndEnd, GoesByInboxes, IsDelivered, IsRequest, IsSideDelivered, IsTaken, messages_of, proxy_of}
use Rattle.threads_run.specs.Laws.{ARecordIsOneMessage, EachAuditIsOk, EachRecordHasALine, EachTextIsOfOneHistory, EachTextWentByItsInboxes, EachWorkerTookAll, GoesByOne, IsClusterOfOne, OneProxyHasItsLines, TookAllOf, WithoutProxiesThereAreNoLines, a_request, batches_in, no_proxies, one_proxy, side_that_sent, text_of_one, the_end, worker_that_took}
use Rattle.threads_run.specs.Text.{IsProxyText, IsThreadsText, proxy_text}
use Rattle.threads_scripts.specs.declared.script.ThreadsScript.{ThreadsScript}

-- ---- audits

-- the version of the last of the records of one proxy is not above the last version
own_below : (config : Config) (h : List Record) (p : ℕ) → IsHistory config h → last_version (records_of_proxy p h) ≤ last_version h
own_below config h p is =
    let own = records_of_proxy p h in
    subst (λ (rs : List Record). last_version rs ≤ last_version h) (take_all own (length own) (omega arith)) (own_version_up_to config h p (length own) is)

-- the version of the last record, by how many there are
last_is : (config : Config) (h : List Record) → IsHistory config h → last_version h ≡ length h * config.step
last_is config h is = ap last_version (sym (take_all h (length h) (omega arith))) ∙ version_before config h (length h) is (omega arith)

-- each resolver has reached the version of each proxy
all_reached : (script : ThreadsScript) (text : List ℕ) (is : IsThreadsText script text) (p : ℕ) (v : LockedProxyView)
    → slice_get is.proxies p ≡ Some v → HaveVersionOf v is.resolvers
all_reached script text is p v at place w there =
    let config = script.config in
    let own = own_below config is.history v.proxy.number is.is_history in
    let done : v.proxy.version ≡ last_version (records_of_proxy v.proxy.number is.history) =
    subst (λ (u : LockedProxyView). u.proxy.version ≡ last_version (records_of_proxy u.proxy.number is.history)) (get_or_from_slice_get is.proxies p v v at) (is.finished p v (slice_get_within is.proxies p v at)) in
    let judged : length w.records ≡ length is.history =
    subst (λ (u : LockedResolverView). length u.records ≡ length is.history) (get_or_from_slice_get is.resolvers place w w there) (is.judged place w (slice_get_within is.resolvers place w there)) in
    let version = rows_of_resolver config w (is.all_resolvers.each place w there).0 in
    let same : length w.records * config.step ≡ length is.history * config.step = ap (λ (n : ℕ). n * config.step) judged in
    let last = last_is config is.history is.is_history in
    omega (arith, own, done, version, same, last)

-- all of a text is of its history
pub each_of_one_history : EachTextIsOfOneHistory
each_of_one_history script text is = record {
  resolvers = λ r w at.
      let judged : length w.records ≡ length is.history =
      subst (λ (u : LockedResolverView). length u.records ≡ length is.history) (get_or_from_slice_get is.resolvers r w w at) (is.judged r w (slice_get_within is.resolvers r w at)) in
      is.of_resolvers r w at ∙ ap (λ (n : ℕ). take n is.history) judged ∙ take_all is.history (length is.history) (omega arith);
  proxies = is.of_proxies;
  answers = is.of_answers;
  rows = is.fits;
  moves = λ row rec at.
      subst (λ (r : Record). r.moves ≡ map (dated 1) script.moves) (get_or_from_slice_get is.history row rec rec at) (is.moved row rec (slice_get_within is.history row rec at));
}

-- parts of one kind are parts of another
each_part : (P Q : ℕ → List ℕ → Type 0) (count bound : ℕ) (text : List ℕ) → count ≤ bound
    → ((number : ℕ) (part : List ℕ) → number < bound → P number part → Q number part) → IsInParts P count text → IsInParts Q count text
each_part P Q zero bound text within so is = is
each_part P Q (suc count) bound text within so (before, part, parts, one, whole) =
    (before, part, each_part P Q count bound before (omega (arith, within)) so parts, so count part (omega (arith, within)) one, whole)

pub each_audit_is_ok : EachAuditIsOk
each_audit_is_ok script text is =
    let config = script.config in
    let count = is.all_proxies.count in (
      (is.answers ++ is.routings) ++ is.meetings,
      is.audits,
      is.text_is,
      subst (λ (n : ℕ). IsInParts (λ p line. line ≡ audit_line p reached_by_all) n is.audits) count
          (each_part (IsAuditLine config is.proxies is.resolvers) (λ p line. line ≡ audit_line p reached_by_all) (length is.proxies) (length is.proxies) is.audits (omega arith)
          (λ p line within audit.
          let v = audit.1 in
          let at = audit.2 in
          an_audit_is_ok_if_all_have_reached config is.proxies is.resolvers p line v at audit (all_reached script text is p v at))
          is.audited),
    )

-- ---- records and lines

-- one line is of at most one batch that is finished
one_more : (config : Config) (rows p : ℕ) (batch : List AdmittedTransaction) (before after : Known) (answer : CommitResult)
    → AnswersBatch config rows p batch before after answer → after.finished ≤ before.finished + 1
one_more config rows p batch before after (Ok finished) is = let counted = is.2.counted in omega (arith, counted)
one_more config rows p batch before after (Err refusal) is = let counted = is.counted in omega (arith, counted)

-- so many turns, after each of which at most one batch more is finished
as_many : (Turn : ℕ → Known → Known → List ℕ → Type 0) (first last : Known) (count : ℕ) (text : List ℕ)
    → ((number : ℕ) (before after : Known) (part : List ℕ) → Turn number before after part → after.finished ≤ before.finished + 1)
    → IsInTurns Turn first count last text → last.finished ≤ first.finished + count
as_many Turn first last zero text one is = let same = ap (λ (k : Known). k.finished) is.0 in omega (arith, same)
as_many Turn first last (suc count) text one (between, earlier, part, turns, turn, whole) =
    let before = as_many Turn first between count earlier one turns in
    let more = one count between last part turn in
    omega (arith, before, more)

-- one list of batches more
more_batches : (work : List (List (List AdmittedTransaction))) (k : ℕ) (batches : List (List AdmittedTransaction)) → slice_get work k ≡ Some batches
    → batches_in (take (k + 1) work) ≡ batches_in (take k work) + length batches
more_batches work k batches at =
    let size = λ (bs : List (List AdmittedTransaction)). length bs in
    let one : sum_by size (batches ∷ []) ≡ length batches = omega arith in
    ap batches_in (take_next work k batches at) ∙ sum_by-append size (take k work) (batches ∷ []) ∙ ap (λ (n : ℕ). batches_in (take k work) + n) one

-- the lines of the work of the first proxies
work_lines : (config : Config) (rows : ℕ) (work : List (List (List AdmittedTransaction))) (known : Known) (count : ℕ) (text : List ℕ)
    → IsInTurns (AreLinesOfProxy config rows work) nothing_known count known text → known.finished ≤ batches_in (take count work)
work_lines config rows work known zero text is = let same = ap (λ (k : Known). k.finished) is.0 in omega (arith, same)
work_lines config rows work known (suc count) text (between, earlier, part, turns, turn, whole) =
    let before = work_lines config rows work between count earlier turns in
    let (batches, own, at, lines, joins) = turn in
    let of_proxy = as_many (IsBatchLine config rows count batches) nothing_known own (length batches) part
    (λ number sooner later line is. one_more config rows count is.0 sooner later is.2.0 is.2.1) lines in
    let grown = more_batches work count batches at in
    let next : batches_in (take (suc count) work) ≡ batches_in (take (count + 1) work) = ap (λ (n : ℕ). batches_in (take n work)) (sym (add-one count)) in
    let counted = joins.counted in
    omega (arith, before, of_proxy, grown, next, counted)

pub each_record_has_a_line : EachRecordHasALine
each_record_has_a_line script text is =
    let config = script.config in
    let lines = is.answered in
    let work = work_lines config script.rows script.work lines.between (length script.work) lines.batches lines.answered in
    let whole : batches_in (take (length script.work) script.work) ≡ batches_in script.work = ap batches_in (take_all script.work (length script.work) (omega arith)) in
    let closings = as_many (IsClosingLine config script.rows) lines.between is.known config.proxies lines.closings
    (λ p sooner later line of. one_more config script.rows p [] sooner later of.0 of.1) lines.closed in
    let counted = is.counted in
    omega (arith, work, whole, closings, counted)

-- ---- a script without proxies

-- no parts are no text
no_parts : (P : ℕ → List ℕ → Type 0) (count : ℕ) (text : List ℕ) → count ≡ 0 → IsInParts P count text → text ≡ []
no_parts P count text none is = subst (λ (n : ℕ). IsInParts P n text) none is

-- the text of nothing at all
nothing_printed : IsThreadsText no_proxies []
nothing_printed = record {
  history = [];
  known = nothing_known;
  answers = [];
  routings = [];
  meetings = [];
  audits = [];
  proxies = [];
  resolvers = [];
  is_history = λ row rec at. absurd (none-some rec at);
  fits = omega arith;
  moved = All-nil (λ (rec : Record). rec.moves ≡ []);
  answered = record {
    between = nothing_known;
    batches = [];
    closings = [];
    answered = (refl, refl);
    closed = (refl, refl);
    text_is = refl;
  };
  of_answers = refl;
  counted = refl;
  of_proxies = λ place v at. absurd (none-some v at);
  of_resolvers = λ place w at. absurd (none-some w at);
  all_proxies = record { count = refl; each = λ place v at. absurd (none-some v at) };
  all_resolvers = record { count = refl; each = λ place w at. absurd (none-some w at) };
  finished = All-nil (HasFinishedAll []);
  judged = All-nil (HasJudgedAll []);
  by_inboxes = (
    [],
    [],
    record {
      all_sides = refl;
      in_order = λ p number at. absurd (none-some number at);
      all_workers = refl;
      each = All-nil (IsSideDelivered no_proxies.config [] []);
    },
  );
  shown = refl;
  met = refl;
  audited = refl;
  text_is = refl;
}

no_other_text : (text : List ℕ) → IsThreadsText no_proxies text → text ≡ []
no_other_text text is =
    let count = is.all_proxies.count in
    let lines = is.answered in
    let answers : is.answers ≡ [] = lines.text_is ∙ ap (λ (t : List ℕ). t ++ lines.closings) lines.answered.1 ∙ lines.closed.1 in
    let routings : is.routings ≡ [] = no_parts (IsProxyText [] is.proxies) (length is.proxies) is.routings count is.shown in
    let meetings : is.meetings ≡ [] =
    no_parts (λ one. AreMeetingLines is.proxies one (length is.proxies - (one + 1))) (length is.proxies) is.meetings count is.met in
    let audits : is.audits ≡ [] = no_parts (IsAuditLine no_proxies.config is.proxies is.resolvers) (length is.proxies) is.audits count is.audited in
    is.text_is ∙ ap (λ (t : List ℕ). ((t ++ is.routings) ++ is.meetings) ++ is.audits) answers
    ∙ ap (λ (t : List ℕ). (t ++ is.meetings) ++ is.audits) routings ∙ ap (λ (t : List ℕ). t ++ is.audits) meetings ∙ audits

pub no_lines_without_proxies : WithoutProxiesThereAreNoLines
no_lines_without_proxies = record { empty = nothing_printed; others = no_other_text }

-- ---- how a run goes by its inboxes

-- the element of this place
at_place : {X : Type 0} (xs : List X) (k : ℕ) → k < length xs → (x : X) × (slice_get xs k ≡ Some x)
at_place [] k within = absurd (omega (arith, within))
at_place (x ∷ xs) zero within = (x, refl)
at_place (x ∷ xs) (suc k) within = at_place xs k (omega (arith, within))

-- what a worker took of the proxy of this side
took_all : (config : Config) (history : List Record) (workers : List EndedView) (p r : ℕ) (side : ProxyView) (worker : EndedView)
    → side.proxy ≡ p → r < config.resolvers → slice_get workers r ≡ Some worker → IsSideDelivered config history workers side
    → TookAllOf history p worker
took_all config history workers p r side worker own within there sent =
    let (sender, at) = at_place side.ends r (omega (arith, within, sent.senders.0)) in
    let places : (sender.resolver ≡ r) × (sender.proxy ≡ side.proxy) = sent.senders.1 r sender at in
    let messages = messages_of history side.proxy in
    let all : IsDelivered messages workers sender = all_at (IsDelivered messages workers) side.ends r sender sent.delivered at in
    let same : all.worker ≡ worker = same_Some all.worker worker (sym all.there ∙ ap (λ (k : ℕ). slice_get workers k) places.0 ∙ there) in
    let taken : IsTaken messages worker sender = subst (λ (w : EndedView). IsTaken messages w sender) same all.taken in
    let proxy : sender.proxy ≡ p = places.1 ∙ own in
    let got : of_proxy p worker.taken.got ≡ sender.put = ap (λ (q : ℕ). of_proxy q worker.taken.got) (sym proxy) ∙ taken.taken in
    let (requests, each, whole) = taken.requests in
    let both : length sender.put ≡ length requests + 1 =
    ap (λ (ms : List MessageView). length ms) whole ∙ length-append requests (end_view sender.proxy ∷ []) in
    let all : length sender.put ≡ length (records_of_proxy p history) + 1 = taken.count ∙ ap (λ (q : ℕ). messages_of history q) own in
    record {
      not_closed = taken.not_closed;
      requests = requests;
      each = each;
      count = omega (arith, both, all);
      taken = got ∙ whole ∙ ap (λ (q : ℕ). requests ++ end_view q ∷ []) proxy;
    }

pub each_worker_took_all : EachWorkerTookAll
each_worker_took_all config history sides workers goes p r worker within there =
    let (side, at) = at_place sides p (omega (arith, within, goes.all_sides)) in
    let mapped : slice_get (map proxy_of sides) p ≡ Some side.proxy = slice_get-map proxy_of sides p ∙ ap (λ (o : Option ProxyView). option_map proxy_of o) at in
    let own : side.proxy ≡ p = goes.in_order p side.proxy mapped in
    let resolver : r < config.resolvers = omega (arith, slice_get_within workers r worker there, goes.all_workers) in
    took_all config history workers p r side worker own resolver there (all_at (IsSideDelivered config history workers) sides p side goes.each at)

pub each_text_went_by_its_inboxes : EachTextWentByItsInboxes
each_text_went_by_its_inboxes script text is =
    let (sides, workers, goes) = is.by_inboxes in
    (workers, goes.all_workers, each_worker_took_all script.config is.history sides workers goes)

-- it is the one element
only : {X : Type 0} (x y : X) (k : ℕ) → slice_get (x ∷ []) k ≡ Some y → x ≡ y
only x y zero at = same_Some x y at
only x y (suc k) at = absurd (none-some y at)

-- all that one proxy sent was delivered
goes_by_one : (history : List Record) (messages : List MessageView)
    → of_proxy 0 messages ≡ messages → AreRequestsAndEnd 0 messages → length messages ≡ messages_of history 0
    → GoesByOne history messages messages
goes_by_one history messages own requests count = record {
  all_sides = refl;
  in_order = first_in_place;
  all_workers = refl;
  each = All-cons (IsSideDelivered one_proxy.config history (worker ∷ [])) (side_that_sent messages) [] (record {
    senders = (refl, λ k e at. (in_place k e at, ap (λ (s : SenderView). s.proxy) (sym (only sender e k at))));
    delivered = All-cons (IsDelivered (messages_of history 0) (worker ∷ [])) sender [] (record {
      accepted = refl;
      worker = worker;
      there = refl;
      taken = record { not_closed = refl; resolver = refl; taken = own; requests = requests; count = count };
    }) (All-nil (IsDelivered (messages_of history 0) (worker ∷ [])));
  }) (All-nil (IsSideDelivered one_proxy.config history (worker ∷ [])));
}
  where
    worker : EndedView
    worker = worker_that_took messages

    sender : SenderView
    sender = record { resolver = 0; proxy = 0; put = messages; gone = false }

    in_place : (k : ℕ) (e : SenderView) → slice_get (sender ∷ []) k ≡ Some e → e.resolver ≡ k
    in_place zero e at = ap (λ (s : SenderView). s.resolver) (sym (only sender e zero at))
    in_place (suc k) e at = absurd (none-some e at)

    first_in_place : (p number : ℕ) → slice_get (0 ∷ []) p ≡ Some number → number ≡ p
    first_in_place zero number at = sym (only 0 number zero at)
    first_in_place (suc p) number at = absurd (none-some number at)

-- what the worker took, if a run of one record went by its inbox
taken_of_one : (sent taken : List MessageView) → GoesByOne (one_of 10) sent taken → TookAllOf (one_of 10) 0 (worker_that_took taken)
taken_of_one sent taken goes = each_worker_took_all one_proxy.config (one_of 10) (side_that_sent sent ∷ []) (worker_that_took taken ∷ []) goes 0 0 (worker_that_took taken) (omega arith) refl

-- these are two messages
two_of_one : (sent taken : List MessageView) → GoesByOne (one_of 10) sent taken → length (of_proxy 0 taken) ≡ 2
two_of_one sent taken goes =
    let took = taken_of_one sent taken goes in
    let count : length took.requests ≡ 1 = took.count in
    let both : length (of_proxy 0 taken) ≡ length took.requests + 1 =
    ap (λ (ms : List MessageView). length ms) took.taken ∙ length-append took.requests (the_end ∷ []) in
    omega (arith, count, both)

-- requests are no End
no_end_last : (requests : List MessageView) → a_request ∷ a_request ∷ [] ≡ requests ++ the_end ∷ [] → ⊥
no_end_last requests whole =
    let ends : 0 ≡ ends_in (requests ++ the_end ∷ []) = ap (λ (ms : List MessageView). ends_in ms) whole in
    let one : ends_in (requests ++ the_end ∷ []) ≡ ends_in requests + 1 = one_end requests the_end refl in
    omega (arith, ends, one)

-- a Close is no request
no_close_first : (requests : List MessageView) → length requests ≡ 1 → All IsRequest requests → close_view 0 ∷ the_end ∷ [] ≡ requests ++ the_end ∷ [] → ⊥
no_close_first [] one each whole = absurd (omega (arith, one))
no_close_first (first ∷ requests) one each whole =
    let same : close_view 0 ≡ first = same_Some (close_view 0) first (ap (λ (ms : List MessageView). slice_get ms 0) whole) in
    let kind : kinds.Close ≡ kinds.Request = ap (λ (m : MessageView). m.kind) same ∙ All-head IsRequest first requests each in
    absurd (cc)

-- a run of one record whose worker was closed
abbrev closed_worker : EndedView
closed_worker = record (worker_that_took (a_request ∷ the_end ∷ [])) { closed = true }

-- it did not go by its inbox
no_closed_worker : GoesByInboxes one_proxy.config (one_of 10) (side_that_sent (a_request ∷ the_end ∷ []) ∷ []) (closed_worker ∷ []) → ⊥
no_closed_worker goes =
    let took : TookAllOf (one_of 10) 0 closed_worker =
    each_worker_took_all one_proxy.config (one_of 10) (side_that_sent (a_request ∷ the_end ∷ []) ∷ []) (closed_worker ∷ []) goes 0 0 closed_worker (omega arith) refl in
    let same : true ≡ false = took.not_closed in
    absurd (cc)

pub a_record_is_one_message : ARecordIsOneMessage
a_record_is_one_message = record {
  goes = goes_by_one (one_of 10) (a_request ∷ the_end ∷ []) refl (a_request ∷ [], All-cons IsRequest a_request [] refl (All-nil IsRequest), refl) refl;
  goes_round = λ goes. let size : 1 ≡ 2 = two_of_one (the_end ∷ []) (the_end ∷ []) goes in absurd (omega (arith, size));
  a_lost_request = λ goes. let size : 1 ≡ 2 = two_of_one (a_request ∷ the_end ∷ []) (the_end ∷ []) goes in absurd (omega (arith, size));
  a_lost_end = λ goes. let size : 1 ≡ 2 = two_of_one (a_request ∷ the_end ∷ []) (a_request ∷ []) goes in absurd (omega (arith, size));
  a_close_more = λ goes.
      let all = close_view 0 ∷ a_request ∷ the_end ∷ [] in
      let size : 3 ≡ 2 = two_of_one all all goes in
      absurd (omega (arith, size));
  a_close_instead = λ goes.
      let all = close_view 0 ∷ the_end ∷ [] in
      let took = taken_of_one all all goes in
      no_close_first took.requests took.count took.each took.taken;
  without_an_end = λ goes.
      let all = a_request ∷ a_request ∷ [] in
      let took = taken_of_one all all goes in
      no_end_last took.requests took.taken;
  a_closed_worker = no_closed_worker;
}

-- ---- a script of one proxy

-- no records are a start of any
none_start : (records : List Record) → records ≡ [] → IsStartOf records []
none_start records none = subst (λ (rs : List Record). rs ≡ take (length rs) []) (sym none) refl

-- the closing is refused, since a ledger without rows is full
closing_refused : IsClosingLine one_proxy.config 0 0 nothing_known nothing_known (closing_line 0 (Err (refusals.LedgerFull 0)))
closing_refused = (Err (refusals.LedgerFull 0), record { kept = refl; ended = (refl, omega arith); counted = refl }, refl)

lines_of_one : (v : LockedProxyView) (w : LockedResolverView) → IsClusterOfOne v w → IsThreadsText one_proxy (text_of_one v)
lines_of_one v w is =
    let answers = closing_line 0 (Err (refusals.LedgerFull 0)) in
    let routings = proxy_text [] 0 v in
    let audits = audit_line 0 reached_by_all in
    record {
      history = [];
      known = nothing_known;
      answers = answers;
      routings = routings;
      meetings = [];
      audits = audits;
      proxies = v ∷ [];
      resolvers = w ∷ [];
      is_history = λ row rec at. absurd (none-some rec at);
      fits = omega arith;
      moved = All-nil (λ (rec : Record). rec.moves ≡ []);
      answered = record {
        between = nothing_known;
        batches = [];
        closings = answers;
        answered = (nothing_known, [], [], (refl, refl), ([], nothing_known, refl, (refl, refl), record { kept = refl; learned = refl; counted = refl }), refl);
        closed = (nothing_known, [], answers, (refl, refl), closing_refused, refl);
        text_is = refl;
      };
      of_answers = refl;
      counted = refl;
      of_proxies = λ place u at. subst (λ (x : LockedProxyView). IsStartOf x.records []) (only v u place at) (none_start v.records is.new_proxy.records);
      of_resolvers = λ place u at. subst (λ (x : LockedResolverView). IsStartOf x.records []) (only w u place at) (none_start w.records is.new_resolver.records);
      all_proxies = is.proxies;
      all_resolvers = is.resolvers;
      finished = All-cons (HasFinishedAll []) v [] is.new_proxy.version (All-nil (HasFinishedAll []));
      judged = All-cons (HasJudgedAll []) w [] (ap (λ (rs : List Record). length rs) is.new_resolver.records) (All-nil (HasJudgedAll []));
      by_inboxes = (side_that_sent (the_end ∷ []) ∷ [], worker_that_took (the_end ∷ []) ∷ [], goes_by_one [] (the_end ∷ []) refl ([], All-nil IsRequest, refl) refl);
      shown = ([], routings, refl, (v, refl, refl), refl);
      met = ([], [], refl, refl, refl);
      audited = ([], audits, refl, is.audited, refl);
      text_is = ap (λ (t : List ℕ). t ++ audits) (sym (append-nil (answers ++ routings)));
    }

-- its audit is a line, so not nothing
no_lines_of_one : IsThreadsText one_proxy [] → ⊥
no_lines_of_one is =
    let (before, audits, whole, (earlier, part, none, line, last)) = each_audit_is_ok one_proxy [] is in
    let size : length {A = ℕ} [] ≡ length before + length audits = ap (λ (t : List ℕ). length t) whole ∙ length-append before audits in
    let of_audits : length audits ≡ length earlier + length part = ap (λ (t : List ℕ). length t) last ∙ length-append earlier part in
    let of_line : length part ≡ length (audit_line 0 reached_by_all) = ap (λ (t : List ℕ). length t) line in
    let one : 0 < length (audit_line 0 reached_by_all) = line_has_an_end (codes "audit " ++ decimal 0 ++ spaced (codes "ok")) in
    absurd (omega (arith, size, of_audits, of_line, one))
  where
    line_has_an_end : (words : List ℕ) → 0 < length (words ++ 10 ∷ [])
    line_has_an_end words = let size : length (words ++ 10 ∷ []) ≡ length words + 1 = length-append words (10 ∷ []) in omega (arith, size)

pub one_proxy_has_its_lines : OneProxyHasItsLines
one_proxy_has_its_lines = record { lines = lines_of_one; no_lines = no_lines_of_one }
