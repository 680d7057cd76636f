-- What the text of a threads script says, and what a run writes: the contracts of laws.rt.
use Rattle.std.specs.Prelude.{◌≡◌, ◌+◌, ◌<◌, ◌≤◌, ℕ, List, [], ◌∷◌, ◌++◌, All, length, map, take}
use Rattle.std.specs.Prelude.{IsOk, Some, Ok, Err, false, true, slice_get}
use Rattle.std.specs.List.{sum_by}
use Rattle.scripts.specs.Outputs.{OutputView, done, refused_output}
use Rattle.scripts.specs.declared.script_fault.ScriptFault.{ScriptFault}
use Rattle.scripts.specs.declared.script_fault.ScriptFault.TheVariants.{NotJson, BadShape}
use Rattle.scripts.specs.declared.status.RunStatus.TheVariants.{Done, ScriptRefused}
use Rattle.scripts.specs.declared.status.RunStatus.TheVariants.{DeviceFailed, OutOfMemory, ClusterRefused}
use Rattle.model.specs.Configs.{Config}
use Rattle.model.specs.Numbers.{ProxyNumber, ResolverNumber}
use Rattle.model.specs.Records.{Record, records_of_proxy}
use Rattle.model.specs.Stamps.{AdmittedTransaction}
use Rattle.agreed_ledger.specs.declared.refusal.Refusal.TheVariants as refusals
use Rattle.inboxes.specs.declared.views.MessageView.{MessageView}
use Rattle.inboxes.specs.Delivers.{of_proxy}
use Rattle.inboxes.specs.Ends.{ProxyView}
use Rattle.inboxes.specs.MessageViews.{close_view, end_view, request_view}
use Rattle.locked_cluster.specs.Proxies.{IsNewLockedProxy, LockedProxyView}
use Rattle.locked_resolvers.specs.Resolvers.{IsNewLockedResolver, LockedResolverView}
use Rattle.threads_lines.specs.Guards.{AreLockedProxies, AreLockedResolvers}
use Rattle.threads_lines.specs.Laws.{one_of, reached_by_all}
use Rattle.threads_lines.specs.Lines.{closing_line}
use Rattle.threads_lines.specs.Meetings.{IsAuditLine, audit_line}
use Rattle.threads_lines.specs.Moves.{dated}
use Rattle.threads_lines.specs.Parts.{IsInParts}
use Rattle.threads_run.specs.Delivered.{GoesByInboxes, IsRequest}
use Rattle.threads_run.specs.Runs.{IsOutputOf, IsOutputFor, WritesOutput}
use Rattle.threads_run.specs.Text.{IsThreadsText, proxy_text}
use Rattle.threads_scripts.specs.Scripts.{script_of}
use Rattle.threads_scripts.specs.declared.script.ThreadsScript.{ThreadsScript}
use Rattle.workers.specs.Workers.{EndedView}

-- the text is so many lines, in order, each of which says that the audit of its proxy is ok
abbrev pub AreAuditsOk : (proxies : ℕ) → (text : List ℕ) → Type 0
AreAuditsOk proxies text = IsInParts (λ p line. line ≡ audit_line p reached_by_all) proxies text

-- the text ends with an `ok` for each proxy: each resolver has judged all records
abbrev pub EachAuditIsOk : Type 0
EachAuditIsOk =
    (script : ThreadsScript) (text : List ℕ) → IsThreadsText script text
    → (before : List ℕ) × (audits : List ℕ) × (text ≡ before ++ audits)
    × AreAuditsOk script.config.proxies audits

-- how many lines of batches these lists of work have
abbrev pub batches_in : List (List (List AdmittedTransaction)) → ℕ
batches_in work = sum_by (λ (batches : List (List AdmittedTransaction)). length batches) work

-- a record of the history has a line of its own: there are no more records than batches and closings
abbrev pub EachRecordHasALine : Type 0
EachRecordHasALine =
    (script : ThreadsScript) (text : List ℕ) (is : IsThreadsText script text)
    → length is.history ≤ batches_in script.work + script.config.proxies

-- All of a text is of its history: each resolver has its records, those of each proxy and of the answers begin
-- it, it fits the ledger, and its records have the moves of the script.
pub record IsOfOneHistory (script : ThreadsScript) (text : List ℕ) (is : IsThreadsText script text) : Type 0 where
  pub resolvers :
      (r : ResolverNumber) (w : LockedResolverView) → slice_get is.resolvers r ≡ Some w → w.records ≡ is.history
  pub proxies :
      (p : ProxyNumber) (v : LockedProxyView) → slice_get is.proxies p ≡ Some v
      → v.records ≡ take (length v.records) is.history
  pub answers : is.known.records ≡ take (length is.known.records) is.history
  pub rows : length is.history ≤ script.rows
  pub moves :
      (row : ℕ) (rec : Record) → slice_get is.history row ≡ Some rec → rec.moves ≡ map (dated 1) script.moves

abbrev pub EachTextIsOfOneHistory : Type 0
EachTextIsOfOneHistory =
    (script : ThreadsScript) (text : List ℕ) (is : IsThreadsText script text) → IsOfOneHistory script text is

-- a script of no proxies, which no file is: a cluster has one at least
abbrev pub no_proxies : ThreadsScript
no_proxies = record {
  config = record { proxies = 0; resolvers = 0; window = 1; step = 1 };
  rows = 0;
  moves = [];
  work = [];
  ask = [];
}

-- it has a text, which is empty, and no other: no line is of something else than its proxies
pub record WithoutProxiesThereAreNoLines : Type 0 where
  pub empty : IsThreadsText no_proxies []
  pub others : (text : List ℕ) → IsThreadsText no_proxies text → text ≡ []

-- a script of one proxy without batches, for a ledger without rows, which no file is either
abbrev pub one_proxy : ThreadsScript
one_proxy = record {
  config = record { proxies = 1; resolvers = 1; window = 1; step = 1 };
  rows = 0;
  moves = [];
  work = [] ∷ [];
  ask = [];
}

-- its proxy and its resolver, before the first record, and the audit of the proxy
pub record IsClusterOfOne (v : LockedProxyView) (w : LockedResolverView) : Type 0 where
  pub proxies : AreLockedProxies one_proxy.config (v ∷ [])
  pub resolvers : AreLockedResolvers one_proxy.config (w ∷ [])
  pub new_proxy : IsNewLockedProxy one_proxy.config 0 v
  pub new_resolver : IsNewLockedResolver 0 w
  pub audited : IsAuditLine one_proxy.config (v ∷ []) (w ∷ []) 0 (audit_line 0 reached_by_all)

-- its text: the closing of the proxy is refused, as the ledger is full; then the proxy, and its audit
abbrev pub text_of_one : LockedProxyView → List ℕ
text_of_one v =
    (closing_line 0 (Err (refusals.LedgerFull 0)) ++ proxy_text [] 0 v)
    ++ audit_line 0 reached_by_all

-- a proxy has these lines, and a text without any line is none of its texts
pub record OneProxyHasItsLines : Type 0 where
  pub lines :
      (v : LockedProxyView) (w : LockedResolverView) → IsClusterOfOne v w
      → IsThreadsText one_proxy (text_of_one v)
  pub no_lines : IsThreadsText one_proxy [] → ⊥

-- ---- how a run goes by its inboxes

-- the worker, which was not closed, took of the proxy as many requests as this has records, then its End
pub record TookAllOf (history : List Record) (p : ProxyNumber) (worker : EndedView) : Type 0 where
  pub not_closed : worker.closed ≡ false
  pub requests : List MessageView
  pub each : All IsRequest requests
  pub count : length requests ≡ length (records_of_proxy p history)
  pub taken : of_proxy p worker.taken.got ≡ requests ++ end_view p ∷ []

-- where a run goes by its inboxes, each worker took all of each proxy
abbrev pub EachWorkerTookAll : Type 0
EachWorkerTookAll =
    (config : Config) (history : List Record) (sides : List ProxyView) (workers : List EndedView)
    → GoesByInboxes config history sides workers
    → (p : ProxyNumber) (r : ResolverNumber) (worker : EndedView)
    → p < config.proxies → slice_get workers r ≡ Some worker → TookAllOf history p worker

-- the run of a text had a worker for each resolver, and each took all of each proxy
abbrev pub EachTextWentByItsInboxes : Type 0
EachTextWentByItsInboxes =
    (script : ThreadsScript) (text : List ℕ) (is : IsThreadsText script text)
    → (workers : List EndedView) × (length workers ≡ script.config.resolvers)
    × ((p : ProxyNumber) (r : ResolverNumber) (worker : EndedView)
    → p < script.config.proxies → slice_get workers r ≡ Some worker → TookAllOf is.history p worker)

-- what is left of proxy 0, which sent these messages to resolver 0
abbrev pub side_that_sent : List MessageView → ProxyView
side_that_sent messages = record {
  proxy = 0;
  ends = record { resolver = 0; proxy = 0; put = messages; gone = false } ∷ [];
}

-- what is left of the worker of resolver 0, which took these messages
abbrev pub worker_that_took : List MessageView → EndedView
worker_that_took messages = record {
  taken = record { resolver = 0; got = messages };
  column = record { resolver = 0; rows = record { first = 0; known = [] } };
  closed = false;
  wanted = false;
  cut_off = false;
}

-- the run of this history went by the inbox of resolver 0, to which proxy 0 sent these messages, and whose
-- worker took those
abbrev pub GoesByOne : (history : List Record) → (sent taken : List MessageView) → Type 0
GoesByOne history sent taken =
    GoesByInboxes one_proxy.config history
    (side_that_sent sent ∷ []) (worker_that_took taken ∷ [])

-- a request of proxy 0 to resolver 0, and its last message
abbrev pub a_request : MessageView
a_request = request_view 0 0 0

abbrev pub the_end : MessageView
the_end = end_view 0

-- A run of one record sent a request and the End. It did not go by its inbox if the proxy asked the resolver
-- in another way, nor if a message was lost, came twice or was a Close, nor if the last is no End, or if the
-- worker was closed.
pub record ARecordIsOneMessage : Type 0 where
  pub goes : GoesByOne (one_of 10) (a_request ∷ the_end ∷ []) (a_request ∷ the_end ∷ [])
  pub goes_round : GoesByOne (one_of 10) (the_end ∷ []) (the_end ∷ []) → ⊥
  pub a_lost_request : GoesByOne (one_of 10) (a_request ∷ the_end ∷ []) (the_end ∷ []) → ⊥
  pub a_lost_end : GoesByOne (one_of 10) (a_request ∷ the_end ∷ []) (a_request ∷ []) → ⊥
  pub a_close_more :
      GoesByOne (one_of 10) (close_view 0 ∷ a_request ∷ the_end ∷ [])
      (close_view 0 ∷ a_request ∷ the_end ∷ []) → ⊥
  pub a_close_instead :
      GoesByOne (one_of 10) (close_view 0 ∷ the_end ∷ []) (close_view 0 ∷ the_end ∷ []) → ⊥
  pub without_an_end :
      GoesByOne (one_of 10) (a_request ∷ a_request ∷ []) (a_request ∷ a_request ∷ []) → ⊥
  pub a_closed_worker :
      GoesByInboxes one_proxy.config (one_of 10) (side_that_sent (a_request ∷ the_end ∷ []) ∷ [])
      (record (worker_that_took (a_request ∷ the_end ∷ [])) { closed = true } ∷ []) → ⊥

-- ---- what answers a script

-- the answer to bytes that are not JSON, and answers that are wrong by their fault, their status or their
-- text
pub record AFaultHasOneAnswer : Type 0 where
  pub answer : IsOutputOf (Err NotJson) (refused_output NotJson)
  pub another_fault : IsOutputOf (Err NotJson) (refused_output BadShape) → ⊥
  pub another_status : IsOutputOf (Err NotJson) (done (refused_output NotJson).text) → ⊥
  pub a_line_more :
      IsOutputOf (Err NotJson) (record (refused_output NotJson) {
        text = (refused_output NotJson).text ++ 10 ∷ [];
      }) → ⊥

-- a script without a fault is answered by none
abbrev pub AScriptWithoutFaultIsNotRefused : Type 0
AScriptWithoutFaultIsNotRefused =
    (script : ThreadsScript) (fault : ScriptFault) → IsOutputOf (Ok script) (refused_output fault)
    → ⊥

-- ---- what a run writes; `old` and `new` are what the sink had and has, which is not the same

-- a run that is done wrote a text of its script
abbrev pub ADoneRunWroteATextOfItsScript : Type 0
ADoneRunWroteATextOfItsScript =
    (answer : OutputView) (bytes old new : List ℕ)
    → WritesOutput answer ⊥ (Some bytes) (Some old) (Some new) Done
    → (script : ThreadsScript) × (script_of bytes ≡ Ok script)
    × IsThreadsText script answer.text × (new ≡ old ++ answer.text)

-- one that is refused wrote the line of its script's fault
abbrev pub ARefusedRunWroteTheFault : Type 0
ARefusedRunWroteTheFault =
    (answer : OutputView) (bytes old new : List ℕ)
    → WritesOutput answer ⊥ (Some bytes) (Some old) (Some new) ScriptRefused
    → (fault : ScriptFault) × (script_of bytes ≡ Err fault)
    × (new ≡ old ++ (refused_output fault).text)

-- one whose device failed wrote a beginning of an answer to its input
abbrev pub AFailedRunWroteABeginning : Type 0
AFailedRunWroteABeginning =
    (answer : OutputView) (bytes old new : List ℕ)
    → WritesOutput answer ⊥ (Some bytes) (Some old) (Some new) DeviceFailed
    → IsOutputFor bytes answer × ((rest : List ℕ) × (old ++ answer.text ≡ new ++ rest))

-- any other wrote nothing; a cluster refuses only a script without a fault
pub record OtherRunsWriteNothing : Type 0 where
  pub out_of_memory :
      (answer : OutputView) (bytes old new : List ℕ)
      → WritesOutput answer ⊥ (Some bytes) (Some old) (Some new) OutOfMemory → ⊥
  pub cluster_refused :
      (answer : OutputView) (bytes old new : List ℕ)
      → WritesOutput answer ⊥ (Some bytes) (Some old) (Some new) ClusterRefused → ⊥
  pub without_fault :
      (answer : OutputView) (bytes old : List ℕ)
      → WritesOutput answer (Unit {0}) (Some bytes) (Some old) (Some old) ClusterRefused
      → IsOk (script_of bytes)
