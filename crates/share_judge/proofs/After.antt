-- What stands at the key right after another: at it, if the next entry is there, or else what stands at the key.
use Rattle.std.proofs.Common.{◌≡◌, refl, sym, ap, subst, ◌∙◌, inl, inr, List, [], ◌∷◌, ◌++◌, Bool, true, false, cond, ◌&&◌}
use Rattle.std.proofs.lemmas.Bool.{both_ways}
use Rattle.std.specs.declared.ops.Bound.TheVariants.{Excluded, Unbounded}
use Rattle.std.specs.BTreeMap.Range.{entries_between}
use Rattle.system_keys.specs.Keys.{Key, is_key_below, only}
use Rattle.system_keys.proofs.KeyOrder.{not_below_itself, not_below_back, below_trans, below_up_to}
use Rattle.share_judge.specs.declared.step.Step.{Step}
use Rattle.share_judge.specs.Steps.{StepStart, last_from, AreRising, HasStart, is_same_key, no_step, starts_now}
use Rattle.share_judge.specs.Versions.{at_key}
use Rattle.share_judge.proofs.Starts.{key_cmp, none_before, before_has, same_key, same_itself, above_differs}
use Rattle.share_judge.proofs.Readings.{last_read, has_read}
use Rattle.share_judge.proofs.Overwritten.{steady}
use Rattle.share_judge.proofs.OneKey.{below_the_next, past_the_next}
use Rattle.share_judge.proofs.AtKeys.{at_read}

-- the entries above a key
abbrev pub above : (key : Key) (es : List StepStart) → List StepStart
above key es = entries_between key_cmp (Excluded key) Unbounded es

entry_or : StepStart → List StepStart → StepStart
entry_or none [] = none
entry_or none (e ∷ es) = e

-- the first of them
record IsFirst (key : Key) (es : List StepStart) (e : StepStart) : Type 0 where
  has : HasStart es e.0
  past : is_key_below key e.0 ≡ true
  stands : last_from no_step es e.0 ≡ e.1
  there : at_key no_step es e.0 ≡ e.1
  least : (k : Key) → HasStart es k → is_key_below key k ≡ true → is_key_below k e.0 ≡ false

none_above : (key : Key) (es : List StepStart) (k : Key) → above key es ≡ [] → HasStart es k → is_key_below key k ≡ true → ⊥
none_above key [] k none has past = has
none_above key (s ∷ es) k none has past = by (is_key_below key s.0) refl none has (none_above key es k)
  where
    by : (t : Bool) → is_key_below key s.0 ≡ t → cond (t && true) (s ∷ above key es) (above key es) ≡ [] → HasStart (s ∷ es) k → (above key es ≡ [] → HasStart es k → is_key_below key k ≡ true → ⊥) → ⊥
    by true e left has rest = cc
    by false e left (inl is) rest = both_ways (is_key_below key s.0) e (ap (is_key_below key) (sym is) ∙ past)
    by false e left (inr there) rest = rest left there past

own : (first : Step) (s : StepStart) (es : List StepStart) → AreRising (s ∷ es) → last_from first (s ∷ es) s.0 ≡ s.1
own first s es rising = ap (λ (b : Bool). cond b first (last_from s.1 es s.0)) (not_below_itself s.0) ∙ none_before s.1 es s.0 rising.0

-- what stands does not depend on the first if a start is there
any_first : (p q : Step) (es : List StepStart) (key : Key) → AreRising es → HasStart es key → last_from p es key ≡ last_from q es key
any_first p q [] key rising has = absurd has
any_first p q (s ∷ es) key rising (inl is) =
    ap (λ (k : Key). last_from p (s ∷ es) k) is ∙ own p s es rising ∙ sym (own q s es rising) ∙ ap (λ (k : Key). last_from q (s ∷ es) k) (sym is)
any_first p q (s ∷ es) key rising (inr has) =
    let after = not_below_back s.0 key (before_has s.0 key es rising.0 has) in
    ap (λ (b : Bool). cond b p (last_from s.1 es key)) after ∙ sym (ap (λ (b : Bool). cond b q (last_from s.1 es key)) after)

first_is : (key : Key) (es : List StepStart) (e : StepStart) (more : List StepStart) → AreRising es → above key es ≡ e ∷ more → IsFirst key es e
unfolding entry_or
first_is key [] e more rising left = absurd (cc)
first_is key (s ∷ es) e more rising left = by (is_key_below key s.0) refl left (first_is key es e more rising.1)
  where
    here : is_key_below key s.0 ≡ true → IsFirst key (s ∷ es) s
    here past = record {
      has = inl refl;
      past = past;
      stands = own no_step s es rising;
      there = ap (λ (b : Bool). cond b s.1 (at_key no_step es s.0)) (same_itself s.0);
      least = λ k has k_past. at_least k has;
    }
      where
        at_least : (k : Key) → HasStart (s ∷ es) k → is_key_below k s.0 ≡ false
        at_least k (inl is) = ap (λ (a : Key). is_key_below a s.0) is ∙ not_below_itself s.0
        at_least k (inr has) = not_below_back s.0 k (before_has s.0 k es rising.0 has)

    later : is_key_below key s.0 ≡ false → IsFirst key es e → IsFirst key (s ∷ es) e
    later up f = record {
      has = inr f.has;
      past = f.past;
      stands =
          ap (λ (b : Bool). cond b no_step (last_from s.1 es e.0)) (not_below_back s.0 e.0 after)
          ∙ any_first s.1 no_step es e.0 rising.1 f.has ∙ f.stands;
      there = ap (λ (b : Bool). cond b s.1 (at_key no_step es e.0)) (above_differs e.0 s.0 after) ∙ f.there;
      least = at_least;
    }
      where
        after : is_key_below s.0 e.0 ≡ true
        after = before_has s.0 e.0 es rising.0 f.has

        at_least : (k : Key) → HasStart (s ∷ es) k → is_key_below key k ≡ true → is_key_below k e.0 ≡ false
        at_least k (inl is) past = absurd (both_ways (is_key_below key s.0) up (ap (is_key_below key) (sym is) ∙ past))
        at_least k (inr has) past = f.least k has past

    by : (t : Bool) → is_key_below key s.0 ≡ t → cond (t && true) (s ∷ above key es) (above key es) ≡ e ∷ more → (above key es ≡ e ∷ more → IsFirst key es e) → IsFirst key (s ∷ es) e
    by true past left rest = subst (IsFirst key (s ∷ es)) (ap (entry_or s) left) (here past)
    by false up left rest = later up (rest left)

-- ---- steps

pub step_there : (es : List StepStart) (key next : Key) (e : StepStart) (more : List StepStart) → AreRising es → above key es ≡ e ∷ more → e.0 ≡ next → e.1.version ≡ last_from 0 (starts_now es) next
step_there es key next e more rising left is =
    let f = first_is key es e more rising left in
    ap (λ (step : Step). step.version) (sym f.stands) ∙ sym (last_read (λ (step : Step). step.version) no_step es e.0) ∙ ap (last_from 0 (starts_now es)) is

not_changed : (es : List StepStart) (key : Key) → ((k : Key) → HasStart es k → is_key_below key k ≡ true → is_key_below (only key).end k ≡ true) → (last_from no_step es key).version ≡ last_from 0 (starts_now es) (only key).end
not_changed es key past =
    sym (last_read (λ (step : Step). step.version) no_step es key)
    ∙ sym (steady 0 (starts_now es) key (only key).end (not_below_back key (only key).end (below_the_next key)) (λ k has above_key. past k (has_read (λ (step : Step). step.version) es k has) above_key))

pub step_none : (es : List StepStart) (key : Key) → above key es ≡ [] → (last_from no_step es key).version ≡ last_from 0 (starts_now es) (only key).end
step_none es key none = not_changed es key (λ k has past. absurd (none_above key es k none has past))

pub step_other : (es : List StepStart) (key : Key) (e : StepStart) (more : List StepStart) → AreRising es → above key es ≡ e ∷ more → (e.0 ≡ (only key).end → ⊥) → (last_from no_step es key).version ≡ last_from 0 (starts_now es) (only key).end
step_other es key e more rising left differs =
    let f = first_is key es e more rising left in
    not_changed es key (λ k has past. below_up_to (only key).end e.0 k (past_the_next key e.0 f.past differs) (f.least k has past))

-- ---- keys alone

pub key_there : (es : List StepStart) (key next : Key) (e : StepStart) (more : List StepStart) → AreRising es → above key es ≡ e ∷ more → e.0 ≡ next → e.1.version ≡ at_key 0 (starts_now es) next
key_there es key next e more rising left is =
    let f = first_is key es e more rising left in
    ap (λ (step : Step). step.version) (sym f.there) ∙ sym (at_read (λ (step : Step). step.version) es e.0) ∙ ap (at_key 0 (starts_now es)) is

absent : (es : List StepStart) (key : Key) → (HasStart es key → ⊥) → 0 ≡ at_key 0 (starts_now es) key
absent [] key none = refl
absent (s ∷ es) key none = by (is_same_key key s.0) refl (absent es key (λ has. none (inr has)))
  where
    by : (t : Bool) → is_same_key key s.0 ≡ t → 0 ≡ at_key 0 (starts_now es) key → 0 ≡ cond t s.1.version (at_key 0 (starts_now es) key)
    by true same rest = absurd (none (inl (same_key key s.0 same)))
    by false differs rest = rest

pub key_none : (es : List StepStart) (key : Key) → above key es ≡ [] → 0 ≡ at_key 0 (starts_now es) (only key).end
key_none es key none = absent es (only key).end (λ has. none_above key es (only key).end none has (below_the_next key))

pub key_other : (es : List StepStart) (key : Key) (e : StepStart) (more : List StepStart) → AreRising es → above key es ≡ e ∷ more → (e.0 ≡ (only key).end → ⊥) → 0 ≡ at_key 0 (starts_now es) (only key).end
key_other es key e more rising left differs =
    let f = first_is key es e more rising left in
    absent es (only key).end (λ has. both_ways (is_key_below (only key).end e.0) (f.least (only key).end has (below_the_next key)) (past_the_next key e.0 f.past differs))

-- past the keys before, those that are left decide
pub left_at : (front left : List StepStart) (k : StepStart) → AreRising (front ++ k ∷ left) → at_key 0 (starts_now (front ++ k ∷ left)) (only k.0).end ≡ at_key 0 (starts_now left) (only k.0).end
left_at [] left k rising = ap (λ (b : Bool). cond b k.1.version (at_key 0 (starts_now left) (only k.0).end)) (above_differs (only k.0).end k.0 (below_the_next k.0))
left_at (f ∷ front) left k rising =
    ap (λ (b : Bool). cond b f.1.version (at_key 0 (starts_now (front ++ k ∷ left)) (only k.0).end)) (above_differs (only k.0).end f.0 (below_trans f.0 k.0 (only k.0).end (before_has f.0 k.0 (front ++ k ∷ left) rising.0 (in_middle front)) (below_the_next k.0)))
    ∙ left_at front left k rising.1
  where
    in_middle : (front : List StepStart) → HasStart (front ++ k ∷ left) k.0
    in_middle [] = inl refl
    in_middle (f ∷ front) = inr (in_middle front)
