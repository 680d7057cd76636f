-- A run of events goes on from where it stopped.
use Rattle.std.proofs.Common.{◌≡◌, refl, sym, ap, ◌∙◌, subst, ℕ, zero, suc, ◌+◌, ◌<◌, List, [], ◌∷◌, ◌++◌, map, take, drop, length, length-append, slice_get, Some, arith}
use Rattle.std.specs.Prelude.{Result}
use Rattle.std.proofs.Math.Seq.{take-nil}
use Rattle.std.proofs.lemmas.List.{drop-map, length-drop, map-append, length-map, take-append-drop}
use Rattle.model.specs.Configs.{Config}
use Rattle.model.specs.World.{World, answers, world_after, handle_event}
use Rattle.model.specs.World as world
use Rattle.model.specs.Turns.{TurnCluster}
use Rattle.model.specs.Laws.Worlds.{AnswersContinue, WorldsContinue}
use Rattle.turn_world.specs.Events.{event_of}
use Rattle.turn_world.specs.Steps.{HasCarriedOut, HasStopped, IsNotRefused, told_by}
use Rattle.turn_world.specs.declared.answer.Answer.{Answer}
use Rattle.turn_world.specs.declared.event.Event.{Event}
use Rattle.turn_world.specs.declared.refusal.Refusal.{Refusal}
use Rattle.turn_world.specs.declared.stopped.Stopped.{Stopped}

-- ---- lists

take_both : {X : Type 0} (n m : ℕ) (xs : List X) → take n xs ++ take m (drop n xs) ≡ take (n + m) xs
take_both zero m xs = let same : m ≡ 0 + m = omega arith in ap (λ (k : ℕ). take k xs) same
take_both (suc n) m [] = take-nil m ∙ sym (take-nil (suc n + m))
take_both (suc n) m (x ∷ xs) =
    let same : suc (n + m) ≡ suc n + m = omega arith in
    ap (λ ys. x ∷ ys) (take_both n m xs) ∙ ap (λ (k : ℕ). take k (x ∷ xs)) same

at_drop : {X : Type 0} (n m : ℕ) (xs : List X) → slice_get (drop n xs) m ≡ slice_get xs (n + m)
at_drop zero m xs = let same : m ≡ 0 + m = omega arith in ap (λ (k : ℕ). slice_get xs k) same
at_drop (suc n) m [] = refl
at_drop (suc n) m (x ∷ xs) =
    let same : suc (n + m) ≡ suc n + m = omega arith in
    at_drop n m xs ∙ ap (λ (k : ℕ). slice_get (x ∷ xs) k) same

-- ---- the answers to some events are as many

count_answers : (config : Config) (w : World) (events : List world.Event) → length (answers config w events) ≡ length events
unfolding answers
count_answers config w [] = refl
count_answers config w (event ∷ events) = ap suc (count_answers config (handle_event config w event).world events)

pub count_results : (before after : TurnCluster) (events : List Event) (results : List (Result Answer Refusal)) → HasCarriedOut before after (map event_of events) results → length results ≡ length events
count_results before after events results did =
    sym (length-map results told_by) ∙ ap length did.results_are
    ∙ length-map (answers before.config before.world (map event_of events)) (λ (answer : world.Answer). Some answer)
    ∙ count_answers before.config before.world (map event_of events) ∙ length-map events event_of

-- ---- one run after another

-- no event leaves the cluster as it is
nothing_done : (before after : TurnCluster) (results : List (Result Answer Refusal)) → HasCarriedOut before after [] results → after ≡ before
unfolding world_after
nothing_done before after results did = did.after_is

one_after_another : AnswersContinue → WorldsContinue
    → (first second third : TurnCluster) (xs ys : List world.Event) (done more : List (Result Answer Refusal)) → HasCarriedOut first second xs done
    → HasCarriedOut second third ys more → HasCarriedOut first third (xs ++ ys) (done ++ more)
one_after_another told worlds first second third xs ys done more one other =
    record {
      results_are = map-append told_by done more ∙ (λ i. one.results_are i ++ next.results_are i) ∙ sym
          (map-append (λ (answer : world.Answer). Some answer) (answers first.config first.world xs) (answers first.config between ys)) ∙ ap
          (map (λ (answer : world.Answer). Some answer)) (sym (told first.config first.world xs ys));
      after_is = next.after_is ∙ ap (λ (w : World). record first { world = w }) (sym (worlds first.config first.world xs ys));
    }
  where
    between : World
    between = world_after first.config first.world xs

    next : HasCarriedOut (record first { world = between }) third ys more
    next = subst (λ (t : TurnCluster). HasCarriedOut t third ys more) one.after_is other

module _ (told : AnswersContinue) (worlds : WorldsContinue) (first between last : TurnCluster) (events rest : List Event) (stopped : Stopped) where
  abbrev all : List world.Event
  all = map event_of events

  abbrev n : ℕ
  n = stopped.carried_out

  -- the rest in the model's words
  rest_is : rest ≡ drop n events → map event_of rest ≡ drop n all
  rest_is is = ap (map event_of) is ∙ sym (drop-map event_of n events)

  -- the rest was carried out
  pub went_on : (more joined : List (Result Answer Refusal)) → rest ≡ drop n events → joined ≡ stopped.answers.items ++ more
      → HasStopped first between all stopped → HasCarriedOut between last (map event_of rest) more → HasCarriedOut first last all joined
  went_on more joined is both stop did =
      subst (HasCarriedOut first last all) (sym both)
      (subst (λ (es : List world.Event). HasCarriedOut first last es (stopped.answers.items ++ more)) (take-append-drop n all)
      (one_after_another told worlds first between last (take n all) (drop n all) stopped.answers.items more stop.carried_out
      (subst (λ (es : List world.Event). HasCarriedOut between last es more) (rest_is is) did)))

  -- the run stopped again
  pub stopped_again : (again both : Stopped) → rest ≡ drop n events → both.carried_out ≡ n + again.carried_out → both.answers.items ≡ stopped.answers.items ++ again.answers.items
      → HasStopped first between all stopped → HasStopped between last (map event_of rest) again → HasStopped first last all both
  stopped_again again both is sum joined stop more =
      record {
        within = let below = other.within in omega (arith, whole, below, sum);
        count = let one = stop.count in let two = other.count in ap length joined ∙ length-append stopped.answers.items again.answers.items ∙ omega (arith, one, two, sum);
        carried_out = carried;
        next = λ some. next_of again.carried_out refl (omega (arith, some, sum));
      }
    where
      other : HasStopped between last (drop n all) again
      other = subst (λ (es : List world.Event). HasStopped between last es again) (rest_is is) more

      whole : n + length (drop n all) ≡ length all
      whole = let rest = length-drop n all in let below = stop.within in omega (arith, rest, below)

      carried : HasCarriedOut first last (take both.carried_out all) both.answers.items
      carried =
          subst (HasCarriedOut first last (take both.carried_out all)) (sym joined)
          (subst (λ (es : List world.Event). HasCarriedOut first last es (stopped.answers.items ++ again.answers.items)) (take_both n again.carried_out all ∙ ap (λ (k : ℕ). take k all) (sym sum))
          (one_after_another told worlds first between last (take n all) (take again.carried_out (drop n all)) stopped.answers.items again.answers.items stop.carried_out other.carried_out))

      next_of : (m : ℕ) → again.carried_out ≡ m → 0 < n + m → IsNotRefused last both.carried_out all
      next_of zero none some =
          let same : last ≡ between = nothing_done between last again.answers.items (subst (λ (k : ℕ). HasCarriedOut between last (take k (drop n all)) again.answers.items) none other.carried_out) in
          let at : both.carried_out ≡ n = omega (arith, sum, none) in
          subst (λ (t : TurnCluster). IsNotRefused t both.carried_out all) (sym same)
          (subst (λ (k : ℕ). IsNotRefused between k all) (sym at) (stop.next (omega (arith, some))))
      next_of (suc m) one some =
          let (event, there, runs) = other.next (omega (arith, one)) in
          (event, ap (slice_get all) sum ∙ sym (at_drop n again.carried_out all) ∙ there, runs)
