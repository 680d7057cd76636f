-- Counters of which each event raises at most one, by one: the rows that each resolver has judged, or
-- the records that each proxy has finished.
use Rattle.std.proofs.Common.{◌≡◌, refl, sym, ap, ◌∙◌, subst, ℕ, zero, suc, ◌<◌, ◌≤◌, ◌⊎◌, inl, inr, List, [], ◌∷◌, Bool, true, false, slice_get, Some, arith}
use Rattle.std.proofs.lemmas.Bool.{cases_order, cases_eq}
use Rattle.model.specs.Configs.{Config}
use Rattle.model.specs.Records.{Record}
use Rattle.model.specs.World.{World, Event, Handled, Answer, IsSound, handle_event, answers, world_after}
use Rattle.model.proofs.Members.{Has}
use Rattle.model.proofs.Worlds.Histories.{happens_sound}
use Rattle.endings.specs.Work.{is_work, AreWork}
use Rattle.endings.proofs.Orders.{first_work, event_keeps}

-- the event raised counter i by one, and its answer tells so
pub record Raised (size : ℕ) (count : World → ℕ → ℕ) (told : ℕ → ℕ → Answer) (w : World) (handled : Handled) : Type 0 where
  pub i : ℕ
  pub there : i < size
  pub own : count handled.world i ≡ suc (count w i)
  pub others : (j : ℕ) → (j ≡ i → ⊥) → count handled.world j ≡ count w j
  pub answer : handled.answer ≡ told i (count w i)

-- the event raised none, and its answer tells of none
pub record Left (count : World → ℕ → ℕ) (is_told : Answer → Bool) (w : World) (handled : Handled) : Type 0 where
  pub same : (j : ℕ) → count handled.world j ≡ count w j
  pub answer : is_told handled.answer ≡ false

-- Counters 0 up to a size, in the worlds of one history. The answer `told i n` tells that counter i
-- was raised from n, and no other answer of its kind does.
pub record Counters (config : Config) (h : List Record) : Type 0 where
  pub size : ℕ
  pub count : World → ℕ → ℕ
  pub told : ℕ → ℕ → Answer
  pub is_told : Answer → Bool
  pub step :
      (w : World) (event : Event) → IsSound config w → w.history ≡ h → is_work event ≡ true
      → Raised size count told w (handle_event config w event) ⊎ Left count is_told w (handle_event config w event)
  pub one : (i n j m : ℕ) → is_told (told i n) ≡ true → told i n ≡ told j m → (i ≡ j) × (n ≡ m)

-- a world of the history, and events that are offers and finishes
pub record Works (config : Config) (h : List Record) (w : World) (events : List Event) : Type 0 where
  pub sound : IsSound config w
  pub history : w.history ≡ h
  pub work : AreWork events

pub first_is : (config : Config) (h : List Record) (w : World) (event : Event) (events : List Event) → Works config h w (event ∷ events) → is_work event ≡ true
first_is config h w event events works = (first_work event events works.work).0

pub rest_works : (config : Config) (h : List Record) (w : World) (event : Event) (events : List Event) → Works config h w (event ∷ events) → Works config h (handle_event config w event).world events
rest_works config h w event events works =
    let both = first_work event events works.work in
    record {
      sound = happens_sound config w event works.sound;
      history = (event_keeps config w event works.sound both.0).history ∙ works.history;
      work = both.1;
    }

-- the step that the first event makes
first_step : (config : Config) (h : List Record) (c : Counters config h) (w : World) (event : Event) (events : List Event) → Works config h w (event ∷ events)
    → Raised c.size c.count c.told w (handle_event config w event) ⊎ Left c.count c.is_told w (handle_event config w event)
first_step config h c w event events works = c.step w event works.sound works.history (first_is config h w event events works)

-- no counter falls
pub event_rises : (config : Config) (h : List Record) (c : Counters config h) (w : World) (event : Event) (i : ℕ) → IsSound config w → w.history ≡ h → is_work event ≡ true → c.count w i ≤ c.count (handle_event config w event).world i
event_rises config h c w event i sound history work = by (c.step w event sound history work)
  where
    of_one : (raised : Raised c.size c.count c.told w (handle_event config w event)) → (i ≡ raised.i) ⊎ (i ≡ raised.i → ⊥) → c.count w i ≤ c.count (handle_event config w event).world i
    of_one raised (inl own) = let one : c.count (handle_event config w event).world i ≡ suc (c.count w i) = subst (λ (j : ℕ). c.count (handle_event config w event).world j ≡ suc (c.count w j)) (sym own) raised.own in omega (arith, one)
    of_one raised (inr apart) = omega (arith, raised.others i apart)

    by : Raised c.size c.count c.told w (handle_event config w event) ⊎ Left c.count c.is_told w (handle_event config w event) → c.count w i ≤ c.count (handle_event config w event).world i
    by (inr left) = omega (arith, left.same i)
    by (inl raised) = of_one raised (cases_eq i raised.i)

pub rises : (config : Config) (h : List Record) (c : Counters config h) (w : World) (events : List Event) (i : ℕ) → Works config h w events → c.count w i ≤ c.count (world_after config w events) i
unfolding world_after
rises config h c w [] i works = omega arith
rises config h c w (event ∷ events) i works =
    let first = event_rises config h c w event i works.sound works.history (first_is config h w event events works) in
    let rest = rises config h c (handle_event config w event).world events i (rest_works config h w event events works) in
    omega (arith, first, rest)

-- ---- each number that a counter passes is told

first_tells : (config : Config) (h : List Record) (c : Counters config h) (w : World) (event : Event) (i n : ℕ) (later : List Answer) → Raised c.size c.count c.told w (handle_event config w event) ⊎ Left c.count c.is_told w (handle_event config w event) → c.count w i ≤ n
    → (c.count (handle_event config w event).world i ≤ n → Has later (c.told i n)) → Has ((handle_event config w event).answer ∷ later) (c.told i n)
first_tells config h c w event i n later (inr left) low rest = inr (rest (omega (arith, left.same i, low)))
first_tells config h c w event i n later (inl raised) low rest = by (cases_eq i raised.i)
  where
    of_own : i ≡ raised.i → (n ≡ c.count w i) ⊎ ((n < c.count w i) ⊎ (c.count w i < n)) → Has ((handle_event config w event).answer ∷ later) (c.told i n)
    of_own own (inl now) = inl (raised.answer ∙ (λ k. c.told (sym own k) (c.count w (sym own k))) ∙ ap (c.told i) (sym now))
    of_own own (inr (inl past)) = absurd (omega (arith, past, low))
    of_own own (inr (inr more)) = let one : c.count (handle_event config w event).world i ≡ suc (c.count w i) = subst (λ (j : ℕ). c.count (handle_event config w event).world j ≡ suc (c.count w j)) (sym own) raised.own in inr (rest (omega (arith, one, more)))

    by : (i ≡ raised.i) ⊎ (i ≡ raised.i → ⊥) → Has ((handle_event config w event).answer ∷ later) (c.told i n)
    by (inl own) = of_own own (cases_order n (c.count w i))
    by (inr apart) = inr (rest (omega (arith, raised.others i apart, low)))

pub tells : (config : Config) (h : List Record) (c : Counters config h) (w : World) (events : List Event) (i n : ℕ) → Works config h w events → c.count w i ≤ n → n < c.count (world_after config w events) i → Has (answers config w events) (c.told i n)
unfolding answers world_after
tells config h c w [] i n works low high = absurd (omega (arith, low, high))
tells config h c w (event ∷ events) i n works low high =
    let next : World = (handle_event config w event).world in
    first_tells config h c w event i n (answers config next events) (first_step config h c w event events works) low (λ below. tells config h c next events i n (rest_works config h w event events works) below high)

-- ---- what is told was passed

-- the answer tells that a counter was raised from a number that it has reached in this world or later
pub record Passed (config : Config) (h : List Record) (c : Counters config h) (w : World) (answer : Answer) : Type 0 where
  pub i : ℕ
  pub n : ℕ
  pub there : i < c.size
  pub low : c.count w i ≤ n
  pub is : answer ≡ c.told i n

first_passed : (config : Config) (h : List Record) (c : Counters config h) (w : World) (event : Event) (answer : Answer) → Raised c.size c.count c.told w (handle_event config w event) ⊎ Left c.count c.is_told w (handle_event config w event) → c.is_told answer ≡ true → (handle_event config w event).answer ≡ answer → Passed config h c w answer
first_passed config h c w event answer (inl raised) told is = record { i = raised.i; n = c.count w raised.i; there = raised.there; low = omega arith; is = sym is ∙ raised.answer }
first_passed config h c w event answer (inr left) told is = absurd (cc (sym left.answer ∙ ap c.is_told is ∙ told))

pub passed : (config : Config) (h : List Record) (c : Counters config h) (w : World) (events : List Event) (answer : Answer) → Works config h w events → c.is_told answer ≡ true → Has (answers config w events) answer → Passed config h c w answer
unfolding answers
passed config h c w [] answer works told has = absurd has
passed config h c w (event ∷ events) answer works told (inl is) = first_passed config h c w event answer (first_step config h c w event events works) told is
passed config h c w (event ∷ events) answer works told (inr later) =
    let rest = passed config h c (handle_event config w event).world events answer (rest_works config h w event events works) told later in
    let risen = event_rises config h c w event rest.i works.sound works.history (first_is config h w event events works) in
    record { i = rest.i; n = rest.n; there = rest.there; low = omega (arith, risen, rest.low); is = rest.is }

-- ---- nothing is told twice

pub has_at : {X : Type 0} (xs : List X) (k : ℕ) (x : X) → slice_get xs k ≡ Some x → Has xs x
has_at [] k x at = absurd (cc)
has_at (y ∷ ys) zero x at = inl (let same : y ≡ x = cc in same)
has_at (y ∷ ys) (suc k) x at = inr (has_at ys k x at)

not_again : (config : Config) (h : List Record) (c : Counters config h) (w : World) (event : Event) (events : List Event) (answer : Answer) → Works config h w (event ∷ events) → c.is_told answer ≡ true → (handle_event config w event).answer ≡ answer → Has (answers config (handle_event config w event).world events) answer → ⊥
not_again config h c w event events answer works told is later = by (first_step config h c w event events works)
  where
    by : Raised c.size c.count c.told w (handle_event config w event) ⊎ Left c.count c.is_told w (handle_event config w event) → ⊥
    by (inr left) = absurd (cc (sym left.answer ∙ ap c.is_told is ∙ told))
    by (inl raised) =
        let again = passed config h c (handle_event config w event).world events answer (rest_works config h w event events works) told later in
        let same : c.told raised.i (c.count w raised.i) ≡ c.told again.i again.n = sym raised.answer ∙ is ∙ again.is in
        let both = c.one raised.i (c.count w raised.i) again.i again.n (ap c.is_told (sym raised.answer ∙ is) ∙ told) same in
        let low : c.count (handle_event config w event).world raised.i ≤ again.n = subst (λ (j : ℕ). c.count (handle_event config w event).world j ≤ again.n) (sym both.0) again.low in
        omega (arith, low, raised.own, both.1)

pub told_once : (config : Config) (h : List Record) (c : Counters config h) (w : World) (events : List Event) (i j : ℕ) (answer : Answer) → Works config h w events → c.is_told answer ≡ true → slice_get (answers config w events) i ≡ Some answer → slice_get (answers config w events) j ≡ Some answer → i ≡ j
unfolding answers
told_once config h c w [] i j answer works told at other = absurd (cc)
told_once config h c w (event ∷ events) zero zero answer works told at other = refl
told_once config h c w (event ∷ events) zero (suc j) answer works told at other =
    let is : (handle_event config w event).answer ≡ answer = cc in
    absurd (not_again config h c w event events answer works told is (has_at (answers config (handle_event config w event).world events) j answer other))
told_once config h c w (event ∷ events) (suc i) zero answer works told at other =
    let is : (handle_event config w event).answer ≡ answer = cc in
    absurd (not_again config h c w event events answer works told is (has_at (answers config (handle_event config w event).world events) i answer at))
told_once config h c w (event ∷ events) (suc i) (suc j) answer works told at other =
    ap (λ (k : ℕ). suc k) (told_once config h c (handle_event config w event).world events i j answer (rest_works config h w event events works) told at other)
