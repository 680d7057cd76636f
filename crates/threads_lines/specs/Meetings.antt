-- The lines that are printed of two proxies that meet, and of audits (this project's profile).
-- `proxies` and `resolvers` are all of a cluster, as their locks keep them at one time.
use Rattle.std.specs.Prelude.{◌≡◌, ◌+◌, ◌-◌, ⊤, ℕ, List, ◌++◌, length, slice_get, Some, codes}
use Rattle.std.specs.Prelude.{MatchResult, Result, Ok, Err}
use Rattle.std.specs.Fmt.{decimal}
use Rattle.model.specs.Configs.{Config}
use Rattle.model.specs.Numbers.{ProxyNumber}
use Rattle.scripts.specs.Lines.{line, spaced}
use Rattle.locked_cluster.specs.Audits.{HaveReached, IsAudited, IsFirstBehind}
use Rattle.locked_cluster.specs.Meetings.{Met}
use Rattle.locked_cluster.specs.Proxies.{LockedProxyView}
use Rattle.locked_resolvers.specs.Resolvers.{LockedResolverView}
use Rattle.locked_cluster.specs.declared.audits.behind_by.BehindBy.{BehindBy}
use Rattle.locked_cluster.specs.declared.proxies.meeting.Meeting.{Meeting}
use Rattle.locked_cluster.specs.declared.proxies.meeting.Meeting.TheVariants as meetings
use Rattle.threads_lines.specs.Parts.{IsInParts}

-- ---- two proxies

abbrev pub meeting_name : Meeting → List ℕ
meeting_name meetings.Same = codes "same"
meeting_name meetings.Behind = codes "behind"
meeting_name meetings.Ahead = codes "ahead"

abbrev pub meeting_line : (one other : ProxyNumber) → Meeting → List ℕ
meeting_line one other met =
    line (codes "meet " ++ decimal one ++ spaced (decimal other) ++ spaced (meeting_name met))

-- the line of the proxies at these places: how far the one has come as the other is met
abbrev pub IsMeetingLine :
    (proxies : List LockedProxyView) → (one other : ProxyNumber) → (text : List ℕ) → Type 0
IsMeetingLine proxies one other text =
    (met : Meeting) × (v : LockedProxyView) × (w : LockedProxyView)
    × (slice_get proxies one ≡ Some v) × (slice_get proxies other ≡ Some w)
    × Met met v.proxy w.proxy × (text ≡ meeting_line one other met)

-- the lines of a proxy with each of the `count` proxies after it
abbrev pub AreMeetingLines :
    (proxies : List LockedProxyView) → (one : ProxyNumber) → (count : ℕ) → (text : List ℕ)
    → Type 0
AreMeetingLines proxies one count text =
    IsInParts (λ place. IsMeetingLine proxies one (one + 1 + place)) count text

-- the lines of each proxy with those after it
abbrev pub AreMeetingsOf : (proxies : List LockedProxyView) → (text : List ℕ) → Type 0
AreMeetingsOf proxies text =
    IsInParts (λ one. AreMeetingLines proxies one (length proxies - (one + 1)))
    (length proxies) text

-- ---- audits

-- all resolvers have come as far as the proxy, or the first that has not, with its version
abbrev pub audit_text : Result ⊤ BehindBy → List ℕ
audit_text (Ok _) = codes "ok"
audit_text (Err behind) =
    codes "behind" ++ spaced (decimal behind.resolver) ++ spaced (decimal behind.version)

abbrev pub audit_line : ProxyNumber → Result ⊤ BehindBy → List ℕ
audit_line p audited = line (codes "audit " ++ decimal p ++ spaced (audit_text audited))

-- the line of the audit of the proxy at this place, by all resolvers, in order
abbrev pub IsAuditLine :
    Config → (proxies : List LockedProxyView) → (resolvers : List LockedResolverView)
    → ProxyNumber → (text : List ℕ) → Type 0
IsAuditLine config proxies resolvers p text =
    (audited : Result ⊤ BehindBy) × (v : LockedProxyView) × (slice_get proxies p ≡ Some v)
    × IsAudited config v
    × MatchResult audited
    (λ _. HaveReached config v resolvers) (IsFirstBehind config v resolvers)
    × (text ≡ audit_line p audited)

-- the lines of the audits of all proxies, in order
abbrev pub AreAuditsOf :
    Config → (proxies : List LockedProxyView) → (resolvers : List LockedResolverView)
    → (text : List ℕ) → Type 0
AreAuditsOf config proxies resolvers text =
    IsInParts (IsAuditLine config proxies resolvers) (length proxies) text
