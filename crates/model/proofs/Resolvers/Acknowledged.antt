-- What a proxy has acknowledged in the world is what its requests say; and the greatest number of a list.
use Rattle.std.proofs.Common.{◌≡◌, refl, sym, ap, ◌∙◌, subst, ℕ, suc, max, ◌<◌, ◌≤◌, ◌⊎◌, inl, inr, List, [], ◌∷◌, length, map, take, Contains, Bool, true, false, cond, nat_eq, if◌then◌else◌, slice_get, slice_index, Some, arith}
use Rattle.std.proofs.lemmas.Bool.{cases_lt}
use Rattle.std.proofs.lemmas.Option.{slice_get_within}
use Rattle.model.specs.Configs.{Config}
use Rattle.model.specs.Records.{Record}
use Rattle.model.specs.Requests.{Request, request, request_back_to, requests_of_proxy}
use Rattle.model.specs.World.{World, IsSound, greatest, received_of, acknowledged}
use Rattle.model.specs.Acknowledged.{acknowledged_requests}
use Rattle.model.proofs.History.Growth.{index_there}
use Rattle.model.proofs.Members.{Has, Has-from_Contains, Contains-from_Has}
use Rattle.model.proofs.Verdicts.Places.{row_at, slice_get-take}

-- the numbers that the requests of a proxy say, where the list has one for each record
received_is : (config : Config) (received : Record → ℕ) (r p : ℕ) (records : List Record) (ns : List ℕ) → ((j : ℕ) (s : Record) → slice_get records j ≡ Some s → slice_get ns j ≡ Some (received s)) →
    received_of p records ns ≡ map (λ (q : Request). q.last_received) (requests_of_proxy p (map (λ (s : Record). request config s (received s) r) records))
unfolding request_back_to
received_is config received r p [] ns each = refl
received_is config received r p (rec ∷ records) [] each = let first = each 0 rec refl in absurd (cc)
received_is config received r p (rec ∷ records) (n ∷ ns) each = by (nat_eq rec.proxy p) (received_is config received r p records ns (λ j s at. each (suc j) s at))
  where
    same : n ≡ received rec
    same = let first : Some n ≡ Some (received rec) = each 0 rec refl in cc

    by : (b : Bool) → received_of p records ns ≡ map (λ (q : Request). q.last_received) (requests_of_proxy p (map (λ (s : Record). request config s (received s) r) records))
        → (if b then n ∷ received_of p records ns else received_of p records ns)
        ≡ map (λ (q : Request). q.last_received) (cond b (request config rec (received rec) r ∷ requests_of_proxy p (map (λ (s : Record). request config s (received s) r) records)) (requests_of_proxy p (map (λ (s : Record). request config s (received s) r) records)))
    by true rest = λ i. same i ∷ rest i
    by false rest = rest

pub acknowledged_is : (config : Config) (w : World) (judged_count r p : ℕ) → IsSound config w → acknowledged w judged_count p ≡ acknowledged_requests p (map (λ (s : Record). request config s (slice_index w.received s.row) r) (take judged_count w.history))
acknowledged_is config w judged_count r p sound = ap greatest (received_is config (λ (s : Record). slice_index w.received s.row) r p (take judged_count w.history) w.received each)
  where
    each : (j : ℕ) (s : Record) → slice_get (take judged_count w.history) j ≡ Some s → slice_get w.received j ≡ Some (slice_index w.received s.row)
    each j s at =
        let there : slice_get w.history j ≡ Some s = (slice_get-take w.history judged_count j s at).1 in
        let within : j < length w.history = slice_get_within w.history j s there in
        let row : s.row ≡ j = row_at config w.history j s sound.sequencer.history there in
        index_there w.received j (omega (arith, within, sound.received)) ∙ ap (λ (k : ℕ). Some (slice_index w.received k)) (sym row)

-- ---- the greatest number

greatest_above : (ns : List ℕ) (n : ℕ) → Has ns n → n ≤ greatest ns
greatest_above [] n has = absurd has
greatest_above (m ∷ ns) n (inl same) = omega arith
greatest_above (m ∷ ns) n (inr later) = let rest : n ≤ greatest ns = greatest_above ns n later in omega arith

pub greatest_is_bound : (ns : List ℕ) (n : ℕ) → Contains ns n → n ≤ greatest ns
greatest_is_bound ns n there = greatest_above ns n (Has-from_Contains ns n there)

-- the greater of two numbers is one of them
one_is_greater : (m n : ℕ) → (m ≡ max m n) ⊎ (n ≡ max m n)
one_is_greater m n = by (cases_lt m n)
  where
    by : (m < n) ⊎ (n ≤ m) → (m ≡ max m n) ⊎ (n ≡ max m n)
    by (inl less) = inr (omega arith)
    by (inr more) = inl (omega arith)

greatest_among : (m : ℕ) (ns : List ℕ) → Has (m ∷ ns) (greatest (m ∷ ns))
greatest_among m [] = inl (omega arith)
greatest_among m (n ∷ ns) = by (one_is_greater m (greatest (n ∷ ns))) (greatest_among n ns)
  where
    by : (m ≡ max m (greatest (n ∷ ns))) ⊎ (greatest (n ∷ ns) ≡ max m (greatest (n ∷ ns))) → Has (n ∷ ns) (greatest (n ∷ ns)) → Has (m ∷ n ∷ ns) (greatest (m ∷ n ∷ ns))
    by (inl here) rest = inl here
    by (inr later) rest = inr (subst (Has (n ∷ ns)) later rest)

pub greatest_is_there : (ns : List ℕ) → (ns ≡ [] → ⊥) → Contains ns (greatest ns)
greatest_is_there [] some = absurd (some refl)
greatest_is_there (n ∷ ns) some = Contains-from_Has (n ∷ ns) (greatest (n ∷ ns)) (greatest_among n ns)
