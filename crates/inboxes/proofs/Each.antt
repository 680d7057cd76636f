-- Lists whose elements are those that belong at their places.
use Rattle.std.proofs.Common.{◌≡◌, ◌≢◌, ℕ, zero, suc, ◌+◌, ◌<◌, ◌⊎◌, inl, inr, ⊎_elim, List, [], ◌∷◌, ◌++◌, length, set, drop, slice_get, Some, sym, refl, ap, ◌∙◌, subst, arith, length-append, length-set}
use Rattle.std.proofs.lemmas.Option.{none-some, same_Some, slice_get_within}
use Rattle.inboxes.specs.Blanks.{AreSides, IsFreshSide}
use Rattle.inboxes.specs.Ends.{IsEach, AreSenders, ProxyView, SenderView}

-- an element of a list with one more
pub get_more : {X : Type 0} (xs : List X) (x y : X) (k : ℕ) → slice_get (xs ++ x ∷ []) k ≡ Some y
    → ((k ≡ length xs) × (x ≡ y)) ⊎ (slice_get xs k ≡ Some y)
get_more [] x y zero at = inl (refl, same_Some x y at)
get_more [] x y (suc k) at = absurd (none-some y at)
get_more (z ∷ zs) x y zero at = inr at
get_more (z ∷ zs) x y (suc k) at = ⊎_elim (λ h. inl (ap suc h.0, h.1)) (λ h. inr h) (get_more zs x y k at)

-- an element of a list with one set
pub get_set : {X : Type 0} (xs : List X) (i j : ℕ) (a b : X) → slice_get (set xs i a) j ≡ Some b
    → ((j ≡ i) × (a ≡ b)) ⊎ ((j ≢ i) × (slice_get xs j ≡ Some b))
get_set [] i j a b at = absurd (none-some b at)
get_set (x ∷ xs) zero zero a b at = inl (refl, same_Some a b at)
get_set (x ∷ xs) zero (suc j) a b at = inr ((λ same. omega arith), at)
get_set (x ∷ xs) (suc i) zero a b at = inr ((λ same. omega arith), at)
get_set (x ∷ xs) (suc i) (suc j) a b at =
    ⊎_elim (λ h. inl (ap suc h.0, h.1)) (λ h. let apart = h.0 in inr ((λ same. apart (omega arith)), h.1)) (get_set xs i j a b at)

-- the first of those that are left
pub drop_next : {X : Type 0} (xs : List X) (k : ℕ) (x : X) (rest : List X) → drop k xs ≡ x ∷ rest
    → (slice_get xs k ≡ Some x) × (drop (k + 1) xs ≡ rest)
drop_next [] zero x rest is = absurd (cc)
drop_next [] (suc k) x rest is = absurd (cc)
drop_next (y ∷ ys) zero x rest is = (cc, let one : zero + 1 ≡ suc zero = omega arith in let tail : ys ≡ rest = cc in ap (λ n. drop n (y ∷ ys)) one ∙ tail)
drop_next (y ∷ ys) (suc k) x rest is =
    let (at, later) = drop_next ys k x rest is in
    let more : suc k + 1 ≡ suc (k + 1) = omega arith in
    (at, ap (λ n. drop n (y ∷ ys)) more ∙ later)

pub each_none : {X : Type 0} (f : ℕ → X) → IsEach f 0 []
each_none f = (refl, λ k x at. absurd (none-some x at))

pub each_more : {X : Type 0} (f : ℕ → X) (n : ℕ) (xs : List X) (x : X) → IsEach f n xs → x ≡ f n
    → IsEach f (n + 1) (xs ++ x ∷ [])
each_more f n xs x each is = (
  length-append xs (x ∷ []) ∙ ap (λ (m : ℕ). m + 1) each.0,
  λ k y at. ⊎_elim (λ h. sym h.1 ∙ is ∙ ap f (sym (h.0 ∙ each.0))) (λ h. each.1 k y h) (get_more xs x y k at),
)

pub each_set : {X : Type 0} (f g : ℕ → X) (n k : ℕ) (xs : List X) (x : X) → IsEach f n xs
    → ((j : ℕ) → j ≢ k → f j ≡ g j) → x ≡ g k → IsEach g n (set xs k x)
each_set f g n k xs x each same is = (
  length-set xs k x ∙ each.0,
  λ j y at. ⊎_elim (λ h. sym h.1 ∙ is ∙ ap g (sym h.0)) (λ h. each.1 j y h.1 ∙ same j h.0) (get_set xs k j x y at),
)

pub each_as : {X : Type 0} (f g : ℕ → X) (n : ℕ) (xs : List X) → IsEach f n xs
    → ((j : ℕ) → j < n → f j ≡ g j) → IsEach g n xs
each_as f g n xs each same = (
  each.0,
  λ j y at. each.1 j y at ∙ same j (let within = slice_get_within xs j y at in omega (arith, within, each.0)),
)

-- one end sent something, and is still the proxy's, to its resolver
pub senders_set : (proxy n k : ℕ) (ends : List SenderView) (before after : SenderView)
    → AreSenders proxy n ends → slice_get ends k ≡ Some before
    → after.resolver ≡ before.resolver → after.proxy ≡ before.proxy
    → AreSenders proxy n (set ends k after)
senders_set proxy n k ends before after are was to of = (
  length-set ends k after ∙ are.0,
  λ j y at. ⊎_elim
      (λ h. (
        ap (λ (s : SenderView). s.resolver) (sym h.1) ∙ to ∙ (are.1 k before was).0 ∙ sym h.0,
        ap (λ (s : SenderView). s.proxy) (sym h.1) ∙ of ∙ (are.1 k before was).1,
      ))
      (λ h. are.1 j y h.1)
      (get_set ends k j after y at),
)

-- the list has one element more
pub each_grown : {X : Type 0} (f : ℕ → X) (xs ys : List X) (x : X) → IsEach f (length xs) xs → x ≡ f (length xs)
    → ys ≡ xs ++ x ∷ [] → IsEach f (length ys) ys
each_grown {X} f xs ys x each is grown =
    subst (λ (zs : List X). IsEach f (length zs) zs) (sym grown) (refl, (each_more f (length xs) xs x each is).1)

-- one side more
pub sides_grown : (resolvers : ℕ) (xs ys : List ProxyView) (x : ProxyView) → AreSides (length xs) resolvers xs
    → IsFreshSide (length xs) resolvers x → ys ≡ xs ++ x ∷ [] → AreSides (length ys) resolvers ys
sides_grown resolvers xs ys x are is grown =
    subst (λ (zs : List ProxyView). AreSides (length zs) resolvers zs) (sym grown) (
      refl,
      λ p side at. ⊎_elim
          (λ h. subst (λ (q : ℕ). IsFreshSide q resolvers side) (sym h.0) (subst (λ (s : ProxyView). IsFreshSide (length xs) resolvers s) h.1 is))
          (λ h. are.1 p side h)
          (get_more xs x side p at),
    )
