-- The text of a threads script: which answers it is of, and their lines (this project's profile).
use Rattle.std.specs.Prelude.{◌≡◌, ◌≤◌, ℕ, List, ◌++◌, All, length, slice_get, Some}
use Rattle.system_keys.specs.Keys.{Key}
use Rattle.model.specs.Metadata.{metadata}
use Rattle.model.specs.Numbers.{ProxyNumber}
use Rattle.model.specs.Records.{Record, IsHistory}
use Rattle.cluster_lines.specs.MetadataLines.{metadata_text, proxy_line}
use Rattle.locked_cluster.specs.Proxies.{LockedProxyView}
use Rattle.locked_resolvers.specs.Resolvers.{LockedResolverView}
use Rattle.threads_lines.specs.Guards.{AreLockedProxies, AreLockedResolvers}
use Rattle.threads_lines.specs.Histories.{AreOfProxies, AreOfResolvers, HasFinishedAll, HasJudgedAll}
use Rattle.threads_lines.specs.Histories.{IsStartOf, Known}
use Rattle.threads_lines.specs.Meetings.{AreAuditsOf, AreMeetingsOf}
use Rattle.threads_lines.specs.Moves.{AreAfterMoves}
use Rattle.threads_lines.specs.Parts.{IsInParts}
use Rattle.threads_lines.specs.Threads.{AreAnswerLines}
use Rattle.threads_run.specs.Delivered.{HasGoneByInboxes}
use Rattle.threads_scripts.specs.declared.script.ThreadsScript.{ThreadsScript}

-- a proxy: its number, its routing at its version, and the tags of the asked keys, by the metadata of
-- its journal
abbrev pub proxy_text : List Key → ProxyNumber → LockedProxyView → List ℕ
proxy_text ask p v =
    proxy_line p ++ metadata_text v.proxy.version (metadata v.proxy.journal) ask

-- the lines of the proxy at this place
abbrev pub IsProxyText :
    List Key → (proxies : List LockedProxyView) → ProxyNumber → (text : List ℕ) → Type 0
IsProxyText ask proxies p text =
    (v : LockedProxyView) × (slice_get proxies p ≡ Some v) × (text ≡ proxy_text ask p v)

-- the lines of all of these proxies, in order
abbrev pub AreProxyTexts :
    List Key → (proxies : List LockedProxyView) → (text : List ℕ) → Type 0
AreProxyTexts ask proxies text =
    IsInParts (IsProxyText ask proxies) (length proxies) text

-- The text of the script: the lines of answers to its batches, those of answers to one empty batch of
-- each proxy, those of each proxy, of each two proxies that meet, and of the audit of each proxy. All
-- are of one history, which fits the ledger, and whose records have the moves of the script. Its
-- records are those of the finished batches and closings, as many as these are: so it has no others,
-- and each is of one line. The lines of proxies, meetings and audits are all of the same state of the
-- proxies and the resolvers, as their locks keep it after the answers: each proxy has finished its
-- records, each resolver has judged all, and those that each of them has are a start of the history.
-- The run went by its inboxes: of each proxy each worker took one request for each of its records, and
-- its End, just as the proxy sent them. Beyond the history no line depends on the schedule of the
-- threads: by the laws `one_end_law` and `batches_finish_alike_law` of endings, every order of offers and finishes
-- that finishes all leads to one world and to the same finished batches.
pub record IsThreadsText (script : ThreadsScript) (text : List ℕ) : Type 0 where
  pub history : List Record
  pub known : Known
  pub answers : List ℕ
  pub routings : List ℕ
  pub meetings : List ℕ
  pub audits : List ℕ
  pub proxies : List LockedProxyView
  pub resolvers : List LockedResolverView
  pub is_history : IsHistory script.config history
  pub fits : length history ≤ script.rows
  pub moved : AreAfterMoves script.moves history
  pub answered :
      AreAnswerLines script.config script.rows script.work script.config.proxies known answers
  pub of_answers : IsStartOf known.records history
  pub counted : known.finished ≡ length history
  pub of_proxies : AreOfProxies proxies history
  pub of_resolvers : AreOfResolvers resolvers history
  pub all_proxies : AreLockedProxies script.config proxies
  pub all_resolvers : AreLockedResolvers script.config resolvers
  pub finished : All (HasFinishedAll history) proxies
  pub judged : All (HasJudgedAll history) resolvers
  pub by_inboxes : HasGoneByInboxes script.config history
  pub shown : AreProxyTexts script.ask proxies routings
  pub met : AreMeetingsOf proxies meetings
  pub audited : AreAuditsOf script.config proxies resolvers audits
  pub text_is : text ≡ ((answers ++ routings) ++ meetings) ++ audits

-- a text of the script, whose history is this one
abbrev pub IsThreadsTextOf : ThreadsScript → (history : List Record) → (text : List ℕ) → Type 0
IsThreadsTextOf script history text = (is : IsThreadsText script text) × (is.history ≡ history)
