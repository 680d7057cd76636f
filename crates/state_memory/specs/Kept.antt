-- What a resolver keeps, in the model's words.
use Rattle.std.specs.Prelude.{◌≡◌, ℕ, List, [], ◌∷◌, map, filter, nat_lt, nat_le, Bool}
use Rattle.std.specs.Prelude.{false, ◌<◌, length, slice_get, slice_set, Option, Some, None}
use Rattle.std.specs.VecDeque.{deque_len, deque_capacity}
use Rattle.model.specs.Numbers.{Version, ProxyNumber}
use Rattle.model.specs.declared.reply.Reply.{Reply}
use Rattle.model.specs.declared.unseen.UnseenRow.{UnseenRow}
use Rattle.model.specs.declared.verdict.Verdict.{Verdict}
use Rattle.model.specs.Requests.{Request, reply_state_of_mark}
use Rattle.model.specs.Offers.{reply_at}
use Rattle.model.specs.ResolverMemory.{ResolverView, ProxyMemory as Kept, is_row_above, proxy_after}
use Rattle.state_memory.specs.Order.{RepliesIncrease}
use Rattle.state_memory.specs.declared.proxy_memory.ProxyMemory.{ProxyMemory}
use Rattle.state_memory.specs.declared.resolver.JudgingRoom.{JudgingRoom}

-- what is kept of a proxy
abbrev pub kept_of : ProxyMemory → Kept
kept_of one =
    record {
      last = one.last;
      acknowledged = one.acknowledged;
      replies = one.replies.items;
    }

-- what is kept of each proxy
abbrev pub all_kept : List ProxyMemory → List Kept
all_kept proxies = map kept_of proxies

-- the rows above a version
abbrev pub rows_above : Version → List UnseenRow → List UnseenRow
rows_above version rows = filter (is_row_above version) rows

-- the replies above a version
abbrev pub replies_above : Version → List Reply → List Reply
replies_above version replies = filter (λ (reply : Reply). nat_lt version reply.version) replies

-- the first row is at or below the version
abbrev pub is_first_row_up_to : Version → List UnseenRow → Bool
is_first_row_up_to version [] = false
is_first_row_up_to version (row ∷ rows) = nat_le row.version version

-- the first reply is at or below the version
abbrev pub is_first_reply_up_to : Version → List Reply → Bool
is_first_reply_up_to version [] = false
is_first_reply_up_to version (reply ∷ replies) = nat_le reply.version version

-- what is kept of a proxy without requests
abbrev pub nothing_kept : Kept
nothing_kept = record { last = 0; acknowledged = 0; replies = [] }

-- there is this number of proxies, and nothing is kept of any
pub record AreNew (proxies : ℕ) (made : List ProxyMemory) : Type 0 where
  pub count : length made ≡ proxies
  pub each :
      (p : ProxyNumber) (one : Kept) → slice_get (all_kept made) p ≡ Some one
      → one ≡ nothing_kept

-- the reply at a version that is kept of a proxy, and None for no proxy
abbrev pub reply_of_proxy : Version → Option Kept → Option Reply
reply_of_proxy version None = None
reply_of_proxy version (Some one) = reply_at version one.replies

-- the reply that a resolver keeps for a proxy at a version
abbrev pub kept_reply : ResolverView → (p : ProxyNumber) (version : Version) → Option Reply
kept_reply v p version = reply_of_proxy version (slice_get v.proxies p)

-- there is room for one more reply to the proxy
abbrev pub HasRoom : List ProxyMemory → ProxyNumber → Type 0
HasRoom proxies p =
    (one : ProxyMemory) → slice_get proxies p ≡ Some one
    → deque_len one.replies < deque_capacity one.replies

-- What is allocated for a request before it is judged: the rows that its reply tells, which are those
-- above the last version of its proxy, twice, its states without verdicts, and a place for each
-- verdict.
pub record IsPrepared
    (proxies : List Kept) (rows : List UnseenRow) (q : Request) (made : JudgingRoom) : Type 0 where
  pub unseen :
      (one : Kept) → slice_get proxies q.proxy ≡ Some one → made.unseen ≡ rows_above one.last rows
  pub copy : made.kept_unseen ≡ made.unseen
  pub states : made.states.items ≡ map (reply_state_of_mark [] []) q.states
  pub places : length made.kept_verdicts.items ≡ length q.share

-- the replies to each proxy are in the order of their versions
abbrev pub AllIncrease : List ProxyMemory → Type 0
AllIncrease proxies =
    (p : ProxyNumber) (one : Kept) → slice_get (all_kept proxies) p ≡ Some one
    → RepliesIncrease one.replies

-- of the proxy of the request it is kept that it was judged, with this reply, and of the others
-- what was kept before
abbrev pub HasKeptReply : (before : List Kept) (q : Request) (reply : Reply) (after : List Kept)
    → Type 0
HasKeptReply before q reply after =
    (one : Kept) → slice_get before q.proxy ≡ Some one
    → after ≡ slice_set before q.proxy (proxy_after one q reply)

-- the reply to a request with these verdicts and these unseen rows
abbrev pub reply_of : Request → List Verdict → List UnseenRow → Reply
reply_of q verdicts unseen =
    record {
      resolver = q.resolver;
      proxy = q.proxy;
      row = q.row;
      version = q.version;
      verdicts = verdicts;
      unseen = unseen;
    }
