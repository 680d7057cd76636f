-- The text of a script, from its parts.
use Rattle.std.proofs.Common.{◌≡◌, ◌∙◌, ◌++◌, ◌+◌, ◌<◌, ◌≤◌, ℕ, zero, suc, List, length, ap, sym, subst, refl, arith}
use Rattle.std.specs.Prelude.{All, Result, Ok, Err, IfOk, OnOk}
use Rattle.model.specs.Configs.{Config}
use Rattle.model.specs.Records.{Record, IsHistory}
use Rattle.locked_cluster.specs.Proxies.{LockedProxyView}
use Rattle.locked_resolvers.specs.Resolvers.{LockedResolverView}
use Rattle.threads_lines.specs.Guards.{AreLockedProxies, AreLockedResolvers}
use Rattle.threads_lines.specs.Histories.{AreOfProxies, AreOfResolvers, HasFinishedAll, HasJudgedAll, IsStartOf, Known}
use Rattle.threads_lines.specs.Meetings.{AreAuditsOf, AreMeetingsOf}
use Rattle.threads_lines.specs.Moves.{AreAfterMoves}
use Rattle.threads_lines.specs.Parts.{GrowsBy}
use Rattle.threads_lines.specs.Threads.{AreAnswerLines}
use Rattle.threads_lines.proofs.HistoryLemmas.{start_more}
use Rattle.threads_lines.specs.declared.faults.RunFault.{RunFault}
use Rattle.threads_run.specs.Delivered.{HasGoneByInboxes, RunView}
use Rattle.threads_run.specs.Text.{AreProxyTexts, IsThreadsTextOf}
use Rattle.threads_scripts.specs.declared.script.ThreadsScript.{ThreadsScript}

-- as many rows as a ledger has, or none
pub fits_rows : (count rows : ℕ) → (0 < count → 0 + count ≤ rows) → count ≤ rows
fits_rows zero rows within = omega arith
fits_rows (suc count) rows within = let all = within (omega arith) in omega (arith, all)

-- `more` is known once the proxies are locked, and `all` once the resolvers are
pub threads_text : (script : ThreadsScript) (config : Config) (rows : ℕ) (known more all : Known) (proxies : List LockedProxyView) (resolvers : List LockedResolverView) (lines shown met text : List ℕ)
    → script.config ≡ config → script.rows ≡ rows
    → IsStartOf known.records more.records → more.finished ≡ known.finished
    → IsStartOf more.records all.records → all.finished ≡ more.finished
    → IsHistory config all.records → length all.records ≤ rows
    → AreAfterMoves script.moves all.records → all.finished ≡ length all.records
    → AreAnswerLines config rows script.work config.proxies known lines
    → AreOfProxies proxies more.records → AreOfResolvers resolvers all.records
    → AreLockedProxies config proxies → AreLockedResolvers config resolvers
    → All (HasFinishedAll all.records) proxies → All (HasJudgedAll all.records) resolvers
    → HasGoneByInboxes config all.records
    → GrowsBy (AreProxyTexts script.ask proxies) lines shown → GrowsBy (AreMeetingsOf proxies) shown met → GrowsBy (AreAuditsOf config proxies resolvers) met text
    → IsThreadsTextOf script all.records text
threads_text script config rows known more all proxies resolvers lines shown met text same_config same_rows first first_count second second_count is
    fits moved counted answered of_proxies of_resolvers all_proxies all_resolvers finished judged by_inboxes with_proxies with_meetings with_audits =
    let (routings, routes, routings_last) = with_proxies in
    let (meetings, meets, meetings_last) = with_meetings in
    let (audits, are_audits, audits_last) = with_audits in (
      record {
        history = all.records;
        known = known;
        answers = lines;
        routings = routings;
        meetings = meetings;
        audits = audits;
        proxies = proxies;
        resolvers = resolvers;
        is_history = subst (λ (c : Config). IsHistory c all.records) (sym same_config) is;
        fits = subst (λ (r : ℕ). length all.records ≤ r) (sym same_rows) fits;
        moved = moved;
        answered = subst (λ (c : Config). AreAnswerLines c script.rows script.work c.proxies known lines) (sym same_config)
            (subst (λ (r : ℕ). AreAnswerLines config r script.work config.proxies known lines) (sym same_rows) answered);
        of_answers = start_more known.records more.records all.records first second;
        counted = sym first_count ∙ sym second_count ∙ counted;
        of_proxies = λ place v at. start_more v.records more.records all.records (of_proxies place v at) second;
        of_resolvers = of_resolvers;
        all_proxies = subst (λ (c : Config). AreLockedProxies c proxies) (sym same_config) all_proxies;
        all_resolvers = subst (λ (c : Config). AreLockedResolvers c resolvers) (sym same_config) all_resolvers;
        finished = finished;
        judged = judged;
        by_inboxes = subst (λ (c : Config). HasGoneByInboxes c all.records) (sym same_config) by_inboxes;
        shown = routes;
        met = meets;
        audited = subst (λ (c : Config). AreAuditsOf c proxies resolvers audits) (sym same_config) are_audits;
        text_is = audits_last ∙ ap (λ (t : List ℕ). t ++ audits) (meetings_last ∙ ap (λ (t : List ℕ). t ++ meetings) routings_last);
      },
      refl,
    )

-- what is made of a delivered run is a text of its history
pub text_so : (result : Result RunView RunFault) (script : ThreadsScript) (Delivered : Type 0) (history : List Record) (text : List ℕ)
    → IfOk result (λ run. run ≡ record { history = history; text = text }) → OnOk result Delivered
    → (Delivered → IsThreadsTextOf script history text) → IfOk result (λ run. IsThreadsTextOf script run.history run.text)
text_so (Ok run) script Delivered history text is delivered so =
    subst (λ (v : RunView). IsThreadsTextOf script v.history v.text) (sym is) (so delivered)
text_so (Err fault) script Delivered history text none delivered so = none

-- what holds if it is Ok holds of what it is
pub of_ok : {X F : Type 0} (result : Result X F) (x : X) (P : X → Type 0) → result ≡ Ok x → IfOk result P → P x
of_ok {X} {F} result x P is all = subst (λ (r : Result X F). IfOk r P) is all
