-- Of two lists with the same bytes the last bytes are the same, and those before.
use Rattle.std.proofs.Common.{◌≡◌, ◌∙◌, ap, ap₂, is_eq, sym, ℕ, List, [], ◌∷◌, ◌++◌}
use Rattle.std.proofs.lemmas.Bool.{both_ways}
use Rattle.share_judge.specs.Steps.{is_same_key}
use Rattle.share_judge.proofs.Starts.{same_key, same_itself}
use Rattle.share_judge.proofs.OneKey.{ends_alike}
use Rattle.share_judge.proofs.one_key.is_right_after.Goals as goal

pub returns-then-last-eq0-clause-found : goal.returns-then-last-eq0-clause-found
returns-then-last-eq0-clause-found c = λ same.
    let is : c.is_eq.result ≡ is_same_key c.in-Some.front.now c.args.key.now = c.is_eq.ensures ∙ ap is_eq c.cmp.ensures in
    c.in-Some.ensures.cases.0 ∙ ap₂ (λ (xs : List ℕ) (x : ℕ). xs ++ x ∷ []) (same_key c.in-Some.front.now c.args.key.now (sym is ∙ same)) c.if-last-eq0.true

pub returns-then-last-eq0-clause-other : goal.returns-then-last-eq0-clause-other
returns-then-last-eq0-clause-other c = λ differs next.
    let is : c.is_eq.result ≡ is_same_key c.in-Some.front.now c.args.key.now = c.is_eq.ensures ∙ ap is_eq c.cmp.ensures in
    let alike : c.in-Some.front.now ≡ c.args.key.now = (ends_alike c.in-Some.front.now c.args.key.now c.in-Some.last.now 0 (sym c.in-Some.ensures.cases.0 ∙ next)).0 in
    both_ways c.is_eq.result differs (is ∙ ap (is_same_key c.in-Some.front.now) (sym alike) ∙ same_itself c.in-Some.front.now)
