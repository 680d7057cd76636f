-- The records of one proxy: their rows and versions rise, and each record of the history is among those of its proxy.
use Rattle.std.proofs.Common.{◌≡◌, sym, ap, ◌∙◌, ℕ, zero, suc, ◌+◌, ◌-◌, ◌<◌, ◌≤◌, ◌⊎◌, inl, inr, List, [], ◌∷◌, ◌++◌, length, take, drop, filter, Bool, true, false, cond, slice_get, Some, take-append-drop, length-append, arith}
use Rattle.std.proofs.lemmas.Bool.{cases_order}
use Rattle.std.proofs.lemmas.List.{length-take-le, take_all}
use Rattle.std.proofs.lemmas.Option.{slice_get_within}
use Rattle.model.specs.Configs.{Config}
use Rattle.model.specs.Records.{Record, IsHistory, last_version, records_of_proxy}
use Rattle.model.proofs.History.Chain.{element_at, versions_rise}
use Rattle.model.proofs.History.Growth.{records_of_proxy-append}
use Rattle.model.proofs.Owners.Moves.{last_version_at}
use Rattle.model.proofs.Verdicts.Places.{take-take_le}
use Rattle.model.proofs.Worlds.Runs.{OwnPlace, own_place}

-- what passes a test stands among all that do
pub kept_at : {X : Type 0} (test : X → Bool) (xs : List X) (i : ℕ) (x : X) → slice_get xs i ≡ Some x → test x ≡ true → (k : ℕ) × (slice_get (filter test xs) k ≡ Some x)
kept_at test [] i x at passes = absurd (cc)
kept_at {X} test (y ∷ ys) zero x at passes = let same : y ≡ x = cc in (0, rw (ap test same ∙ passes) at)
kept_at {X} test (y ∷ ys) (suc i) x at passes = by (test y) (kept_at test ys i x at passes)
  where
    by : (t : Bool) → (k : ℕ) × (slice_get (filter test ys) k ≡ Some x) → (k : ℕ) × (slice_get (cond t (y ∷ filter test ys) (filter test ys)) k ≡ Some x)
    by true found = (suc found.0, found.1)
    by false found = found

-- more rows have no fewer records of a proxy
count_rises : (p : ℕ) (h : List Record) (i j : ℕ) → i ≤ j → length (records_of_proxy p (take i h)) ≤ length (records_of_proxy p (take j h))
count_rises p h i j order =
    let split : take j h ≡ take i h ++ drop i (take j h) = sym (take-append-drop i (take j h)) ∙ ap (λ (g : List Record). g ++ drop i (take j h)) (take-take_le h i j order) in
    let count : length (records_of_proxy p (take j h)) ≡ length (records_of_proxy p (take i h)) + length (records_of_proxy p (drop i (take j h))) =
    ap (λ (g : List Record). length (records_of_proxy p g)) split ∙ ap length (records_of_proxy-append p (take i h) (drop i (take j h))) ∙ length-append (records_of_proxy p (take i h)) (records_of_proxy p (drop i (take j h))) in
    omega (arith, count)

-- of two records of a proxy, the later one stands in a later row
pub own_rises : (p : ℕ) (h : List Record) (k m : ℕ) (rec other : Record) → k < m → slice_get (records_of_proxy p h) m ≡ Some other → (a : OwnPlace p h k rec) → (b : OwnPlace p h m other) → a.i < b.i
own_rises p h k m rec other order at a b = by (cases_order a.i b.i)
  where
    past : b.i ≤ a.i → ⊥
    past behind =
        let within = slice_get_within (records_of_proxy p h) m other at in
        let before : length (records_of_proxy p (take a.i h)) ≡ k = ap length a.earlier ∙ length-take-le k (records_of_proxy p h) (omega (arith, within, order)) in
        let after : length (records_of_proxy p (take b.i h)) ≡ m = ap length b.earlier ∙ length-take-le m (records_of_proxy p h) (omega (arith, within)) in
        omega (arith, before, after, count_rises p h b.i a.i behind, order)

    by : (a.i ≡ b.i) ⊎ ((a.i < b.i) ⊎ (b.i < a.i)) → a.i < b.i
    by (inl same) = absurd (past (omega (arith, same)))
    by (inr (inl less)) = less
    by (inr (inr more)) = absurd (past (omega (arith, more)))

-- the version of a record is at most that of the last record of its proxy
pub own_up_to : (config : Config) (h : List Record) (p k : ℕ) (rec : Record) → IsHistory config h → slice_get (records_of_proxy p h) k ≡ Some rec → rec.version ≤ last_version (records_of_proxy p h)
own_up_to config h p k rec history at = by (cases_order k (length (records_of_proxy p h) - 1))
  where
    own : List Record
    own = records_of_proxy p h

    within : k < length own
    within = slice_get_within own k rec at

    last : (other : Record) × (slice_get own (length own - 1) ≡ Some other)
    last = element_at own (length own - 1) (omega (arith, within))

    last_is : last_version own ≡ last.0.version
    last_is = ap last_version (sym (take_all (suc (length own - 1)) own (omega (arith, within)))) ∙ last_version_at own (length own - 1) last.0 last.1

    by : (k ≡ length own - 1) ⊎ ((k < length own - 1) ⊎ (length own - 1 < k)) → rec.version ≤ last_version own
    by (inl same) =
        let both : Some rec ≡ Some last.0 = sym at ∙ ap (slice_get own) same ∙ last.1 in
        let one : rec ≡ last.0 = cc in
        omega (arith, ap (λ (x : Record). x.version) one, last_is)
    by (inr (inl before)) =
        let a = own_place p h k rec at in
        let b = own_place p h (length own - 1) last.0 last.1 in
        let rises = versions_rise config h a.i b.i rec last.0 history (own_rises p h k (length own - 1) rec last.0 before last.1 a b) a.at b.at in
        omega (arith, rises, (history b.i last.0 b.at).version, last_is)
    by (inr (inr past)) = absurd (omega (arith, past, within))
