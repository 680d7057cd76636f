-- One more proxy met those after it.
use Rattle.std.proofs.Common.{◌≡◌, ◌+◌, ◌-◌, ℕ, length, rules, subst}
use Rattle.std.specs.Prelude.{string_bytes}
use Rattle.threads_lines.specs.Meetings.{AreMeetingLines}
use Rattle.threads_lines.specs.Parts.{GrowsBy, IsInParts}
use Rattle.threads_lines.proofs.PartLemmas.{one_more_part}
use Rattle.threads_lines.proofs.meetings.print_meetings.Goals as goal

pub loop-one-preserved : goal.loop-one-preserved
loop-one-preserved g c =
    let l = c.loop-one in
    let proxies = c.args.proxies.now in
    one_more_part (λ one. AreMeetingLines proxies one (length proxies - (one + 1))) l.one (string_bytes c.args.text.now) (string_bytes l.text) (string_bytes c.print_meetings_of.new.text) l.invariant c.in_ok-print_meetings_of.ensures

pub returns : goal.returns
returns g c =
    let l = c.loop-one in
    let proxies = c.args.proxies.now in
    let all : l.one ≡ length proxies = search rules in
    subst (λ (n : ℕ). GrowsBy (IsInParts (λ one. AreMeetingLines proxies one (length proxies - (one + 1))) n) (string_bytes c.args.text.now) (string_bytes l.text)) all l.invariant
