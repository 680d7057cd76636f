-- Flags that begin alike for every resolver, read off in the end.
use Rattle.std.proofs.Common.{◌≡◌, ℕ, ◌≤◌, ap, ◌∙◌, Bool, ◌||◌, List, filter, arith}
use Rattle.model.specs.Shares.{each_below}
use Rattle.dated_owners.specs.Flags.{is_flagged, Flags, AreAll}
use Rattle.dated_owners.proofs.FlagLaws.{filter_below}
use Rattle.request_builder.specs.declared.asked_resolvers.AskedResolvers.{AskedResolvers}
use Rattle.request_builder.specs.AskedResolvers.{is_asked_about, is_asked_by, asked_by}

pub asked_flagged : (asking : AskedResolvers) (n : ℕ) (before flags : List Bool) → n ≤ 64 → AreAll asking.is_state before → Flags before (is_asked_about asking) flags → filter (is_flagged flags) (each_below n) ≡ asked_by n asking
asked_flagged asking n before flags few all flagged =
    filter_below (is_flagged flags) (is_asked_by asking) n
    (λ r there. flagged.each r (omega (arith, there, few, all.as_many)) ∙ ap (λ b. b || is_asked_about asking r) (all.each r (omega (arith, there, few))))
