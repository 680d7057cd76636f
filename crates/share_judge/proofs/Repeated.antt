-- Keys that are listed have one version, also once more is written.
use Rattle.std.proofs.Common.{◌≡◌, refl, ap, ◌∙◌, ◌⊎◌, inl, inr, ℕ, zero, suc, ◌<◌, List, [], ◌∷◌, ◌++◌, length, get_or, Bool, true, false, cond, ◌||◌, arith, sym}
use Rattle.std.proofs.lemmas.Bool.{both_ways, or_left, or_cases}
use Rattle.std.proofs.lemmas.List.Folds.{list_any-append}
use Rattle.system_keys.specs.Keys.{Key}
use Rattle.share_judge.specs.Steps.{Start, last_from, AreRising, AreOver, TellTheSame, HaveVersion, is_same_key, is_listed}
use Rattle.share_judge.proofs.Starts.{same_itself}
use Rattle.share_judge.proofs.Settled.{same_last}

-- a key of the list is listed
pub listed_at : (keys : List Key) (i : ℕ) (key : Key) → i < length keys → key ≡ get_or keys i key → is_listed keys key ≡ true
listed_at [] i key there is = absurd (omega arith)
listed_at (k ∷ keys) zero key there is = or_left (is_same_key k key) (is_listed keys key) (ap (is_same_key k) is ∙ same_itself k)
listed_at (k ∷ keys) (suc i) key there is = by (is_same_key k key) (listed_at keys i key (omega arith) is)
  where
    by : (t : Bool) → is_listed keys key ≡ true → (t || is_listed keys key) ≡ true
    by true rest = refl
    by false rest = rest

-- what is written has the version too
pub still_listed : (test : Key → Bool) (version : ℕ) (old new : List Start) (keys : List Key) → AreOver test version old new → HaveVersion version old keys → HaveVersion version new keys
still_listed test version old new keys over held key listed = over.at key ∙ by (test key) (last_from 0 old key) (held key listed)
  where
    by : (t : Bool) (n : ℕ) → n ≡ version → cond t version n ≡ version
    by true n is = refl
    by false n is = is

-- keys that pass the test are listed with those before
pub more_listed : (test : Key → Bool) (version : ℕ) (old new : List Start) (keys more all : List Key) → AreOver test version old new → all ≡ keys ++ more → ((key : Key) → is_listed more key ≡ true → test key ≡ true) → HaveVersion version old keys → HaveVersion version new all
more_listed test version old new keys more all over is pass held key listed =
    of (or_cases (is_listed keys key) (is_listed more key) (sym (list_any-append (λ (k : Key). is_same_key k key) keys more) ∙ ap (λ (ks : List Key). is_listed ks key) (sym is) ∙ listed))
  where
    of : (is_listed keys key ≡ true) ⊎ (is_listed more key ≡ true) → last_from 0 new key ≡ version
    of (inl before) = still_listed test version old new keys over held key before
    of (inr later) = over.at key ∙ ap (λ (b : Bool). cond b version (last_from 0 old key)) (pass key later)

-- what tells the same gives them the same version
pub same_listed : (version : ℕ) (old new : List Start) (keys : List Key) → AreRising old → AreRising new → TellTheSame old new → HaveVersion version old keys → HaveVersion version new keys
same_listed version old new keys rising rising_new same held key listed = same_last old new rising rising_new same key ∙ held key listed

-- before any is listed
pub none_listed : (version : ℕ) (starts : List Start) (keys : List Key) → keys ≡ [] → HaveVersion version starts keys
none_listed version starts keys is key listed = absurd (both_ways false refl (sym (ap (λ (ks : List Key). is_listed ks key) is) ∙ listed))
