-- The keys of the starts that pass a test.
use Rattle.std.proofs.Common.{◌≡◌, refl, sym, ap, ◌∙◌, inl, inr, List, [], ◌∷◌, filter, Bool, true, false, cond, ◌&&◌, ◌||◌}
use Rattle.std.specs.Map.{keys_of}
use Rattle.std.proofs.lemmas.Bool.{or_left}
use Rattle.system_keys.specs.Keys.{Key}
use Rattle.share_judge.specs.Steps.{HasStart, is_same_key, is_listed}
use Rattle.share_judge.proofs.Starts.{same_key, same_itself}

has_listed : {X : Type 0} → (ss : List (Key × X)) (key : Key) → HasStart ss key → is_listed (keys_of ss) key ≡ true
has_listed [] key has = absurd has
has_listed (s ∷ ss) key (inl e) = or_left (is_same_key s.0 key) (is_listed (keys_of ss) key) (ap (is_same_key s.0) e ∙ same_itself s.0)
has_listed (s ∷ ss) key (inr has) = by (is_same_key s.0 key) (has_listed ss key has)
  where
    by : (t : Bool) → is_listed (keys_of ss) key ≡ true → (t || is_listed (keys_of ss) key) ≡ true
    by true rest = refl
    by false rest = rest

-- the starts whose keys pass a test
abbrev pub passing : {X : Type 0} → (Key → Bool) → List (Key × X) → List (Key × X)
passing {X} test ss = filter (λ (s : Key × X). test s.0) ss

pub listed_passing : {X : Type 0} → (test : Key → Bool) (ss : List (Key × X)) (key : Key) → is_listed (keys_of (passing test ss)) key ≡ (test key && is_listed (keys_of ss) key)
listed_passing test [] key = by (test key)
  where
    by : (t : Bool) → false ≡ (t && false)
    by true = refl
    by false = refl
listed_passing test (s ∷ ss) key = by (test s.0) refl (is_same_key s.0 key) refl (listed_passing test ss key)
  where
    by : (t : Bool) → test s.0 ≡ t → (u : Bool) → is_same_key s.0 key ≡ u → is_listed (keys_of (passing test ss)) key ≡ (test key && is_listed (keys_of ss) key) →
        is_listed (keys_of (cond t (s ∷ passing test ss) (passing test ss))) key ≡ (test key && (u || is_listed (keys_of ss) key))
    by true passes true same rest =
        let there : test key ≡ true = ap test (sym (same_key s.0 key same)) ∙ passes in
        rw (same, there) refl
    by true passes false differs rest = rw differs rest
    by false fails true same rest =
        let none : test key ≡ false = ap test (sym (same_key s.0 key same)) ∙ fails in
        rest ∙ ap (λ (b : Bool). b && is_listed (keys_of ss) key) none ∙ sym (ap (λ (b : Bool). b && (true || is_listed (keys_of ss) key)) none)
    by false fails false differs rest = rest

and_true : (b : Bool) → (b && true) ≡ b
and_true true = refl
and_true false = refl

and_false : (b : Bool) → (b && false) ≡ false
and_false true = refl
and_false false = refl

pub listed_there : {X : Type 0} → (test : Key → Bool) (ss : List (Key × X)) (key : Key) → HasStart ss key → is_listed (keys_of (passing test ss)) key ≡ test key
listed_there test ss key has = listed_passing test ss key ∙ ap (λ (b : Bool). test key && b) (has_listed ss key has) ∙ and_true (test key)
