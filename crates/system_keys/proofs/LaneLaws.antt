-- From the bits of one test of several characters to those that stand for themselves.
use Rattle.std.proofs.Common.{◌≡◌, ℕ, ◌+◌, ◌-◌, ◌%◌, ◌^◌, ◌<◌, ◌≤◌, Bool, true, false, not, ◌||◌, List, [], ◌∷◌, map, length, get_or, replicate, Fits, w8, refl, sym, ap, ap₂, ◌∙◌, subst, arith, inl, inr}
use Rattle.std.proofs.lemmas.Bool.{agree_below, agree_below_at, not-true, cases_lt}
use Rattle.std.proofs.lemmas.Simd.{map-map, mask_l-mod, length-chunk, get_or-chunk, first_set_mask_l}
use Rattle.std.proofs.lemmas.List.{length-map}
use Rattle.std.proofs.lemmas.List.Sums.{prefix_len-le-length, prefix_len_passes}
use Rattle.std.specs.List.{prefix_len}
use lib.Lanes.{chunk, zip2, mask_l, top}
use Rattle.system_keys.specs.Text.{is_plain, ArePlain, first_set_bit}

-- ---- characters from one place to another

-- up to the end of a part that begins no later than the first ends
pub plain_on : (text : List ℕ) (middle from to : ℕ) → from ≤ middle → ArePlain text 0 middle → ArePlain text from to → ArePlain text 0 to
plain_on text middle from to joins front back i start below =
    elim (cases_lt i middle) [ inl early ↦ front i start early | inr late ↦ back i (omega (arith, joins, late)) below ]

-- ---- one test of several characters

zip2-map : (h : ℕ → ℕ → ℕ) (f g : ℕ → ℕ) (xs : List ℕ) → zip2 h (map f xs) (map g xs) ≡ map (λ x. h (f x) (g x)) xs
zip2-map h f g [] = refl
zip2-map h f g (x ∷ xs) = ap (λ r. h (f x) (g x) ∷ r) (zip2-map h f g xs)

-- an operation on two vectors that were computed lane by lane from a third
pub joined : (h : ℕ → ℕ → ℕ) (f g : ℕ → ℕ) (v : List ℕ) {a b : List ℕ} → a ≡ map f v → b ≡ map g v → zip2 h a b ≡ map (λ x. h (f x) (g x)) v
joined h f g v p q = ap₂ (zip2 h) p q ∙ zip2-map h f g v

pub splat_is : (v : List ℕ) (n y : ℕ) → length v ≡ n → replicate n y ≡ map (λ _. y) v
splat_is [] n y e = ap (λ k. replicate k y) (sym e)
splat_is (x ∷ xs) n y e = ap (λ k. replicate k y) (sym e) ∙ ap (λ r. y ∷ r) (splat_is xs (length xs) y refl)

module _ (text : List ℕ) (at n run : ℕ) (z : List ℕ) (room : at + n ≤ length text) (few : n ≤ 64)
    (fits : (k : ℕ) → Fits w8 (get_or text k 0)) (found : run ≡ first_set_bit (mask_l (map (top 7) z) % 2 ^ 64) n)
    (f : ℕ → ℕ) (lanes : z ≡ map f (chunk at n text)) where
  abbrev stops : ℕ → Bool
  stops x = top 7 (f x)

  long : length (chunk at n text) ≡ n
  long = length-chunk at n text room

  counted : run ≡ prefix_len (λ x. not (stops x)) (chunk at n text)
  counted =
      let v = chunk at n text in
      let mask = ap (λ l. mask_l l % 2 ^ 64) (ap (map (top 7)) lanes ∙ map-map (top 7) f v) ∙ mask_l-mod (map stops v) 64 (omega (arith, length-map v stops, long)) in
      found ∙ ap (λ m. first_set_bit m n) mask ∙ first_set_mask_l stops v n long few

  pub run_within : run ≤ n
  run_within = omega (arith, counted, long, prefix_len-le-length (λ x. not (stops x)) (chunk at n text))

  goes_on : (k : ℕ) → at ≤ k → k < at + run → stops (get_or text k 0) ≡ false
  goes_on k from to =
      let back : at + (k - at) ≡ k = omega arith in
      let bound = prefix_len-le-length (λ x. not (stops x)) (chunk at n text) in
      let place = get_or-chunk at n text (k - at) 0 (omega (arith, counted, long)) ∙ ap (λ j. get_or text j 0) back in
      subst (λ x. stops x ≡ false) place (not-true _ (prefix_len_passes (λ x. not (stops x)) (chunk at n text) (k - at) 0 (omega (arith, counted))))

  -- if each byte at which no lane stops is plain
  pub run_plain : agree_below (λ x. stops x || is_plain x) (λ _. true) 256 ≡ true → ArePlain text at (at + run)
  run_plain all k from to =
      sym (ap (λ b. b || is_plain (get_or text k 0)) (goes_on k from to)) ∙ agree_below_at (λ x. stops x || is_plain x) (λ _. true) 256 (get_or text k 0) all (fits k).fits
