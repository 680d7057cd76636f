-- The lists of asked resolvers say how many parts a share has.
use Rattle.std.proofs.Common.{◌≡◌, refl, ap, ℕ, suc, ◌<◌, List, [], ◌∷◌, length, map, filter, Bool, true, false, cond, if◌then◌else◌, nat_eq}
use Rattle.std.proofs.lemmas.Bool.{eqb-true, eq-eqb, false_from_ne_true}
use Rattle.model.specs.Configs.{Config}
use Rattle.model.specs.Records.{Record}
use Rattle.model.specs.Transactions.{StampedTransaction}
use Rattle.model.specs.Shares.{share, share_back_to, parts_from, part_of, asks, asked, each_below}
use Rattle.model.proofs.History.Growth.{Has-each_below}
use Rattle.model.proofs.Members.{list_any-from_Has, Passing-from_list_any, Has-filter, Has-from_filter}
use Rattle.proxy_state.specs.Learning.{is_resolver_in, count_parts_for}

-- a number below n is in the list of those that pass exactly if it passes
pub is_in_passing : (test : ℕ → Bool) (n r : ℕ) → r < n → is_resolver_in r (filter test (each_below n)) ≡ test r
is_in_passing test n r below = by (test r) refl
  where
    by : (b : Bool) → test r ≡ b → is_resolver_in r (filter test (each_below n)) ≡ b
    by true passes = list_any-from_Has (λ a. nat_eq a r) (filter test (each_below n)) r (Has-filter test (each_below n) r (Has-each_below n r below) passes) (eq-eqb r r refl)
    by false fails = false_from_ne_true (is_resolver_in r (filter test (each_below n)))
        (λ found.
        let one = Passing-from_list_any (λ a. nat_eq a r) (filter test (each_below n)) found in
        let passes = (Has-from_filter test (each_below n) one.x one.has).1 in
        let same : one.x ≡ r = eqb-true one.x r one.passes in
        absurd (cc))

pub is_in_asked : (config : Config) (rec : Record) (t : StampedTransaction) (r : ℕ) → r < config.resolvers → is_resolver_in r (asked config rec t) ≡ asks config rec r t
is_in_asked config rec t r below = is_in_passing (λ s. asks config rec s t) config.resolvers r below

parts_counted : (config : Config) (rec : Record) (r n : ℕ) (ts : List StampedTransaction) → r < config.resolvers → length (parts_from config rec r n ts) ≡ count_parts_for r (map (asked config rec) ts)
parts_counted config rec r n [] below = refl
parts_counted config rec r n (t ∷ ts) below = rw (is_in_asked config rec t r below) (by (asks config rec r t) (parts_counted config rec r (suc n) ts below))
  where
    by : (b : Bool) → length (parts_from config rec r (suc n) ts) ≡ count_parts_for r (map (asked config rec) ts)
        → length (if b then part_of config rec r n t ∷ parts_from config rec r (suc n) ts else parts_from config rec r (suc n) ts) ≡ length (cond b (asked config rec t ∷ filter (is_resolver_in r) (map (asked config rec) ts)) (filter (is_resolver_in r) (map (asked config rec) ts)))
    by true rest = ap (λ k. suc k) rest
    by false rest = rest

pub share_counted : (config : Config) (rec : Record) (r : ℕ) → r < config.resolvers → length (share config rec r) ≡ count_parts_for r (map (asked config rec) rec.batch)
unfolding share_back_to
share_counted config rec r below = parts_counted config rec r 0 rec.batch below

-- the next list
pub count_next : (r : ℕ) (list : List ℕ) (lists : List (List ℕ)) (b : Bool) → is_resolver_in r list ≡ b → count_parts_for r (list ∷ lists) ≡ (if b then suc (count_parts_for r lists) else count_parts_for r lists)
count_next r list lists true there = rw there refl
count_next r list lists false missing = rw missing refl
