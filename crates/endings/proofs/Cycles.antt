-- Some proxy is the slowest; and a schedule that has every offer and finish over and over is fair.
use Rattle.std.proofs.Common.{◌≡◌, refl, sym, ap, ◌∙◌, subst, ℕ, zero, suc, ◌+◌, ◌<◌, ◌≤◌, ◌⊎◌, inl, inr, List, [], ◌∷◌, length, true, arith}
use Rattle.std.proofs.lemmas.Bool.{cases_order}
use Rattle.model.specs.Configs.{Config}
use Rattle.model.specs.Shares.{each_below}
use Rattle.model.specs.World.{World, Event, Offer, IsSound, world_after}
use Rattle.model.proofs.Members.{Has}
use Rattle.endings.specs.Work.{is_work, AreWork}
use Rattle.endings.specs.Distances.{IsSlowest, SomeProxyIsSlowest}
use Rattle.endings.specs.Fairness.{CanBeDone, Schedule, SomeScheduleIsFair, first_events, round}
use Rattle.endings.proofs.Orders.{first_work, work_keeps}
use Rattle.endings.proofs.Rounds.{in_round, mapped_work, round_work}

-- ---- the slowest

least_of_more : (rows : ℕ → ℕ) (n p : ℕ) → ((q : ℕ) → q < n → rows p ≤ rows q) → rows p ≤ rows n → (q : ℕ) → q < suc n → rows p ≤ rows q
least_of_more rows n p least last q within = by (cases_order q n)
  where
    by : (q ≡ n) ⊎ ((q < n) ⊎ (n < q)) → rows p ≤ rows q
    by (inl same) = omega (arith, last, ap rows same)
    by (inr (inl before)) = least q before
    by (inr (inr past)) = absurd (omega (arith, past, within))

some_least : (rows : ℕ → ℕ) (n : ℕ) → (p : ℕ) × (p < suc n) × ((q : ℕ) → q < suc n → rows p ≤ rows q)
some_least rows zero = (0, omega arith, least_of_more rows 0 0 (λ q none. absurd (omega (arith, none))) (omega arith))
some_least rows (suc n) = by (some_least rows n)
  where
    chosen : (p : ℕ) → p < suc n → ((q : ℕ) → q < suc n → rows p ≤ rows q) → (rows p ≡ rows (suc n)) ⊎ ((rows p < rows (suc n)) ⊎ (rows (suc n) < rows p))
        → (p : ℕ) × (p < suc (suc n)) × ((q : ℕ) → q < suc (suc n) → rows p ≤ rows q)
    chosen p there least (inl same) = (p, omega (arith, there), least_of_more rows (suc n) p least (omega (arith, same)))
    chosen p there least (inr (inl less)) = (p, omega (arith, there), least_of_more rows (suc n) p least (omega (arith, less)))
    chosen p there least (inr (inr more)) = (suc n, omega arith, least_of_more rows (suc n) (suc n) (λ q within. omega (arith, least q within, more)) (omega arith))

    by : (p : ℕ) × (p < suc n) × ((q : ℕ) → q < suc n → rows p ≤ rows q) → (p : ℕ) × (p < suc (suc n)) × ((q : ℕ) → q < suc (suc n) → rows p ≤ rows q)
    by (p, there, least) = chosen p there least (cases_order (rows p) (rows (suc n)))

pub some_slowest : SomeProxyIsSlowest
some_slowest config rows some = by config.proxies refl
  where
    by : (n : ℕ) → config.proxies ≡ n → (p : ℕ) × IsSlowest config rows p
    by zero none = absurd (omega (arith, none, some))
    by (suc n) is =
        let (p, there, least) = some_least rows n in
        (p, (subst (λ (m : ℕ). p < m) (sym is) there, λ q within. least q (subst (λ (m : ℕ). q < m) is within)))

-- ---- events over and over

-- the events that are left, and then the first and the others, over and over
abbrev cycled : Event → (others left : List Event) → (n : ℕ) → Event
cycled first others [] zero = first
cycled first others [] (suc n) = cycled first others others n
cycled first others (event ∷ left) zero = event
cycled first others (event ∷ left) (suc n) = cycled first others left n

cycled_later : (first : Event) (others left : List Event) (n : ℕ) → cycled first others left (length left + n) ≡ cycled first others [] n
cycled_later first others [] n = let none : 0 + n ≡ n = omega arith in ap (cycled first others []) none
cycled_later first others (event ∷ left) n =
    let one : length (event ∷ left) + n ≡ suc (length left + n) = omega arith in
    ap (cycled first others (event ∷ left)) one ∙ cycled_later first others left n

-- so many moments of a period, so many times
abbrev moments : (period times : ℕ) → ℕ
moments period zero = 0
moments period (suc times) = period + moments period times

moments_grow : (period times : ℕ) → times ≤ moments (suc period) times
moments_grow period zero = omega arith
moments_grow period (suc times) =
    let is : moments (suc period) (suc times) ≡ suc period + moments (suc period) times = refl in
    omega (arith, is, moments_grow period times)

cycled_again : (first : Event) (others : List Event) (times n : ℕ) → cycled first others [] (moments (suc (length others)) times + n) ≡ cycled first others [] n
cycled_again first others zero n = let none : 0 + n ≡ n = omega arith in ap (cycled first others []) none
cycled_again first others (suc times) n =
    let period = suc (length others) in
    let one : moments period (suc times) + n ≡ suc (length others + (moments period times + n)) = omega arith in
    ap (cycled first others []) one ∙ cycled_later first others others (moments period times + n) ∙ cycled_again first others times n

cycled_at : (first : Event) (others left : List Event) (event : Event) → Has left event → (n : ℕ) × (cycled first others left n ≡ event)
cycled_at first others [] event has = absurd has
cycled_at first others (next ∷ left) event (inl same) = (0, same)
cycled_at first others (next ∷ left) event (inr later) = let (n, at) = cycled_at first others left event later in (suc n, at)

cycled_work : (first : Event) (others left : List Event) (n : ℕ) → is_work first ≡ true → AreWork others → AreWork left → is_work (cycled first others left n) ≡ true
cycled_work first others [] zero one all some = one
cycled_work first others [] (suc n) one all some = cycled_work first others others n one all all
cycled_work first others (next ∷ left) zero one all some = (first_work next left some).0
cycled_work first others (next ∷ left) (suc n) one all some = cycled_work first others left n one all (first_work next left some).1

-- every offer and finish of the cluster, over and over (and an offer before each, so that there is some event)
abbrev over_and_over : Config → World → Schedule
over_and_over config w = cycled (Offer 0 0) (round config (length w.history)) []

over_works : (config : Config) (w : World) (n : ℕ) → is_work (over_and_over config w n) ≡ true
over_works config w n = cycled_work (Offer 0 0) (round config (length w.history)) [] n refl (round_work config (length w.history)) refl

comes_again : (config : Config) (w : World) (n : ℕ) (event : Event) → IsSound config w → CanBeDone config (world_after config w (first_events (over_and_over config w) n)) event
    → (later : ℕ) × (n ≤ later) × (over_and_over config w later ≡ event)
comes_again config w n event sound can =
    let schedule = over_and_over config w in
    let others = round config (length w.history) in
    let events = first_events schedule n in
    let kept = work_keeps config w events sound (mapped_work schedule (each_below n) (over_works config w)) in
    let has = subst (λ (rows : ℕ). Has (round config rows) event) (ap length kept.history) (in_round config (world_after config w events) event can) in
    let (place, at) = cycled_at (Offer 0 0) others others event has in (
      moments (suc (length others)) n + suc place,
      omega (arith, moments_grow (length others) n),
      cycled_again (Offer 0 0) others n (suc place) ∙ at,
    )

pub some_fair : SomeScheduleIsFair
some_fair config w sound = (over_and_over config w, record { work = over_works config w; comes = λ n event can. comes_again config w n event sound can })
