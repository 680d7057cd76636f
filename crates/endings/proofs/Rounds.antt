-- Rounds are fair segments: they make every offer and every finish that can be done.
use Rattle.std.proofs.Common.{◌≡◌, refl, sym, ap, ◌∙◌, subst, ℕ, zero, suc, ◌<◌, inl, inr, List, [], ◌∷◌, ◌++◌, map, length, Bool, true, false, nat_le, if◌then◌else◌, slice_get, Option, Some, None, leb-false, arith}
use Rattle.std.specs.Prelude.{flat_map}
use Rattle.std.proofs.lemmas.Option.{slice_get_within}
use Rattle.std.specs.List.{list_all}
use Rattle.model.specs.Configs.{Config}
use Rattle.model.specs.Records.{Record}
use Rattle.model.specs.Shares.{each_below}
use Rattle.model.specs.World as world
use Rattle.model.specs.World.{World, Event, Sequence, MoveRange, Offer, Finish, Handled, IsSound, refuse, handle_offer, handle_finish, handle_event, world_after}
use Rattle.model.proofs.Members.{Has, Has-map, Has-append_left, Has-append_right, Contains-from_Has}
use Rattle.model.proofs.History.Growth.{Has-each_below}
use Rattle.model.proofs.Worlds.Histories.{world_after_sound}
use Rattle.endings.specs.Work.{is_work, AreWork, is_done, work_left}
use Rattle.endings.specs.Fairness.{CanBeDone, IsFairSegment, AreFair, offers_of_row, round, rounds, RoundsAreFair, RoundsFinishByWork, RoundsFinishByRows}
use Rattle.endings.proofs.Completion.{both_so}
use Rattle.endings.proofs.Orders.{first_work, work_keeps}
use Rattle.endings.proofs.Fair.{finish_by_work}
use Rattle.endings.proofs.ByRows.{finish_by_rows}

-- ---- a round is of offers and finishes

pub append_work : (xs ys : List Event) → AreWork xs → AreWork ys → AreWork (xs ++ ys)
append_work [] ys first second = second
append_work (x ∷ xs) ys first second = both_so (is_work x) (list_all is_work (xs ++ ys)) (both.0) (append_work xs ys both.1 second)
  where
    both : (is_work x ≡ true) × AreWork xs
    both = first_work x xs first

pub mapped_work : (f : ℕ → Event) (ns : List ℕ) → ((n : ℕ) → is_work (f n) ≡ true) → AreWork (map f ns)
mapped_work f [] each = refl
mapped_work f (n ∷ ns) each = both_so (is_work (f n)) (list_all is_work (map f ns)) (each n) (mapped_work f ns each)

rows_work : (config : Config) (rows : List ℕ) → AreWork (flat_map (offers_of_row config) rows)
rows_work config [] = refl
rows_work config (row ∷ rows) = append_work (offers_of_row config row) (flat_map (offers_of_row config) rows) (mapped_work (λ (r : ℕ). Offer row r) (each_below config.resolvers) (λ r. refl)) (rows_work config rows)

pub round_work : (config : Config) (rows : ℕ) → AreWork (round config rows)
round_work config rows = append_work (flat_map (offers_of_row config) (each_below rows)) (map (λ (p : ℕ). Finish p) (each_below config.proxies)) (rows_work config (each_below rows)) (mapped_work (λ (p : ℕ). Finish p) (each_below config.proxies) (λ p. refl))

-- ---- what can be done is in it

pub Has-flat_map : {X Y : Type 0} (f : X → List Y) (xs : List X) (x : X) (y : Y) → Has xs x → Has (f x) y → Has (flat_map f xs) y
Has-flat_map f [] x y has of = absurd has
Has-flat_map {Y} f (z ∷ zs) x y (inl same) of = Has-append_left (f z) (flat_map f zs) y (subst (λ (ys : List Y). Has ys y) (ap f (sym same)) of)
Has-flat_map f (z ∷ zs) x y (inr later) of = Has-append_right (f z) (flat_map f zs) y (Has-flat_map f zs x y later of)

offer_there : (config : Config) (w : World) (row r : ℕ) → is_done (handle_event config w (Offer row r)).answer ≡ true → (row < length w.history) × (r < config.resolvers)
unfolding handle_event
offer_there config w row r done = by (slice_get w.history row) refl done
  where
    known : (rec : Record) (t : Bool) (handled : Handled) → slice_get w.history row ≡ Some rec → nat_le config.resolvers r ≡ t → is_done (if t then refuse w world.WrongResolver else handled).answer ≡ true → (row < length w.history) × (r < config.resolvers)
    known rec true handled at unknown done = absurd (cc)
    known rec false handled at there done = (slice_get_within w.history row rec at, leb-false config.resolvers r there)

    by : (found : Option Record) → slice_get w.history row ≡ found → is_done (handle_offer config w row r found).answer ≡ true → (row < length w.history) × (r < config.resolvers)
    by None at done = absurd (cc)
    by (Some rec) at done = known rec (nat_le config.resolvers r) _ at refl done

finish_there : (config : Config) (w : World) (p : ℕ) → is_done (handle_event config w (Finish p)).answer ≡ true → p < config.proxies
unfolding handle_event
finish_there config w p done = by (nat_le config.proxies p) refl _ done
  where
    by : (t : Bool) → nat_le config.proxies p ≡ t → (handled : Handled) → is_done (if t then refuse w world.NoSuchProxy else handled).answer ≡ true → p < config.proxies
    by true unknown handled done = absurd (cc)
    by false there handled done = leb-false config.proxies p there

pub in_round : (config : Config) (w : World) (event : Event) → CanBeDone config w event → Has (round config (length w.history)) event
in_round config w (Sequence p batch) can = absurd (cc (can.0))
in_round config w (MoveRange range dest) can = absurd (cc (can.0))
in_round config w (Offer row r) can =
    let there = offer_there config w row r can.1 in
    Has-append_left (flat_map (offers_of_row config) (each_below (length w.history))) (map (λ (p : ℕ). Finish p) (each_below config.proxies)) (Offer row r)
    (Has-flat_map (offers_of_row config) (each_below (length w.history)) row (Offer row r) (Has-each_below (length w.history) row there.0)
    (Has-map (λ (s : ℕ). Offer row s) (each_below config.resolvers) r (Has-each_below config.resolvers r there.1)))
in_round config w (Finish p) can =
    Has-append_right (flat_map (offers_of_row config) (each_below (length w.history))) (map (λ (q : ℕ). Finish q) (each_below config.proxies)) (Finish p)
    (Has-map (λ (q : ℕ). Finish q) (each_below config.proxies) p (Has-each_below config.proxies p (finish_there config w p can.1)))

round_fair : (config : Config) (w : World) (rows : ℕ) → length w.history ≡ rows → IsFairSegment config w (round config rows)
round_fair config w rows is = record {
  work = round_work config rows;
  comes = λ event can. Contains-from_Has (round config rows) event (subst (λ (n : ℕ). Has (round config n) event) is (in_round config w event can));
}

-- ---- rounds

all_fair : (config : Config) (w : World) (rows n : ℕ) → IsSound config w → length w.history ≡ rows → AreFair config w (rounds config rows n)
all_fair config w rows zero sound is = tt
all_fair config w rows (suc n) sound is =
    let kept = work_keeps config w (round config rows) sound (round_work config rows) in
    (round_fair config w rows is, all_fair config (world_after config w (round config rows)) rows n (world_after_sound config w (round config rows) sound) (ap length kept.history ∙ is))

pub rounds_fair : RoundsAreFair
rounds_fair config w n sound = all_fair config w (length w.history) n sound refl

rounds_counted : (config : Config) (rows n : ℕ) → length (rounds config rows n) ≡ n
rounds_counted config rows zero = refl
rounds_counted config rows (suc n) = ap (λ (k : ℕ). suc k) (rounds_counted config rows n)

pub rounds_by_work : RoundsFinishByWork
rounds_by_work config w sound = finish_by_work config w (rounds config (length w.history) (work_left config w)) sound (rounds_fair config w (work_left config w) sound) (omega (arith, rounds_counted config (length w.history) (work_left config w)))

pub rounds_by_rows : RoundsFinishByRows
rounds_by_rows config w sound = finish_by_rows config w (rounds config (length w.history) (suc (length w.history))) sound (rounds_fair config w (suc (length w.history)) sound) (omega (arith, rounds_counted config (length w.history) (suc (length w.history))))
