-- The lines of proxies that meet.
use Rattle.std.proofs.Common.{◌≡◌, ◌+◌, ◌-◌, ◌≤◌, ℕ, List, subst, arith}
use Rattle.locked_cluster.specs.Proxies.{LockedProxyView}
use Rattle.threads_lines.specs.Meetings.{AreMeetingLines, IsMeetingLine}
use Rattle.threads_lines.specs.Parts.{GrowsBy}
use Rattle.threads_lines.proofs.PartLemmas.{no_part, one_more_part}

-- the proxy met none yet
pub no_meeting : (proxies : List LockedProxyView) (one : ℕ) (old : List ℕ) → GrowsBy (AreMeetingLines proxies one (one + 1 - (one + 1))) old old
no_meeting proxies one old =
    let none : 0 ≡ one + 1 - (one + 1) = omega arith in
    subst (λ (n : ℕ). GrowsBy (AreMeetingLines proxies one n) old old) none (no_part (λ place. IsMeetingLine proxies one (one + 1 + place)) old)

-- the proxy met one more
pub one_more_meeting : (proxies : List LockedProxyView) (one other : ℕ) (old between new : List ℕ) → one + 1 ≤ other
    → GrowsBy (AreMeetingLines proxies one (other - (one + 1))) old between → GrowsBy (IsMeetingLine proxies one other) between new
    → GrowsBy (AreMeetingLines proxies one (other + 1 - (one + 1))) old new
one_more_meeting proxies one other old between new above earlier later =
    let place = other - (one + 1) in
    let is : other ≡ one + 1 + (other - (one + 1)) = omega (arith, above) in
    let more : other - (one + 1) + 1 ≡ other + 1 - (one + 1) = omega (arith, above) in
    subst (λ (n : ℕ). GrowsBy (AreMeetingLines proxies one n) old new) more
    (one_more_part (λ p. IsMeetingLine proxies one (one + 1 + p)) place old between new earlier
    (subst (λ (n : ℕ). GrowsBy (IsMeetingLine proxies one n) between new) is later))
