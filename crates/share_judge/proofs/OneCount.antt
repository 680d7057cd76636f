-- Two ways to cut the keys into steps are the same.
use Rattle.std.proofs.Common.{◌≡◌, ◌⊎◌, inl, inr, refl, sym, ap, ap₂, ◌∙◌, ℕ, suc, true, List, [], ◌∷◌, length, subst, IsTrue, codes}
use Rattle.system_keys.specs.Keys.{Key, is_key_below, holds}
use Rattle.system_keys.specs.Limits.{key_space_end}
use Rattle.system_keys.proofs.KeyOrder.{not_below_back, below_cases}
use Rattle.system_keys.proofs.KeyLaws.{holds_from_inside}
use Rattle.model.specs.WriteHistories.{last_at}
use Rattle.share_judge.specs.Answers.{AreSteps, IsCount, StepsHaveOneCount, b_to_d, AWriteMakesThreeSteps}
use Rattle.share_judge.specs.Steps.{Start, AreRising}
use Rattle.share_judge.proofs.Counted.{counted}
use Rattle.share_judge.proofs.KeptWrites.{last_kept}

-- a key above the begin of a range and below its end is in it
between : (begin key end : Key) → is_key_below begin key ≡ true → is_key_below key end ≡ true → IsTrue (holds (record { begin = begin; end = end }) key)
between begin key end above below =
    holds_from_inside (record { begin = begin; end = end }) key (record { begun = not_below_back begin key above; ended = below })

same_steps : (last : Key → ℕ) (begin : Key) (nexts others : List Key) → AreSteps last begin nexts → AreSteps last begin others → nexts ≡ others
same_steps last begin [] [] d e = refl
same_steps last begin [] (other ∷ others) d e = absurd (e.0.differs (d other (between begin other key_space_end e.0.begins_below e.0.in_space)))
same_steps last begin (next ∷ nexts) [] d e = absurd (d.0.differs (e next (between begin next key_space_end d.0.begins_below d.0.in_space)))
same_steps last begin (next ∷ nexts) (other ∷ others) d e =
    by (below_cases next other) (λ same. same_steps last next nexts others d.1 (subst (λ (key : Key). AreSteps last key others) (sym same) e.1))
  where
    by : (is_key_below next other ≡ true) ⊎ ((next ≡ other) ⊎ (is_key_below other next ≡ true)) → (next ≡ other → nexts ≡ others) → next ∷ nexts ≡ other ∷ others
    by (inl below) rest = absurd (d.0.differs (e.0.one next (between begin next other d.0.begins_below below)))
    by (inr (inl same)) rest = ap₂ ◌∷◌ same (rest same)
    by (inr (inr above)) rest = absurd (e.0.differs (d.0.one other (between begin other next e.0.begins_below above)))

pub steps_have_one_count : StepsHaveOneCount
steps_have_one_count last m n counts again =
    counts.counted ∙ ap (λ (nexts : List Key). suc (length nexts)) (same_steps last [] counts.nexts again.nexts counts.steps again.steps) ∙ sym again.counted

-- ---- the scenario

-- the starts after the write of `b` to `d`
starts_of_one : List Start
starts_of_one = (codes "b", 10) ∷ (codes "d", 0) ∷ []

rising_one : AreRising starts_of_one
unfolding starts_of_one
rising_one = ((refl, tt), (tt, tt))

three_steps : IsCount (last_at (b_to_d ∷ [])) 3
unfolding starts_of_one
three_steps = counted 0 3 starts_of_one (last_at (b_to_d ∷ [])) rising_one (λ key. last_kept 0 starts_of_one key rising_one refl) refl

pub a_write_makes_three_steps : AWriteMakesThreeSteps
a_write_makes_three_steps =
    record {
      none = counted 0 1 [] (last_at []) tt (λ key. refl) refl;
      three = three_steps;
      no_other = λ n counts. steps_have_one_count (last_at (b_to_d ∷ [])) n 3 counts three_steps;
    }
