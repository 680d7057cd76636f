-- Rows of sending ends, one for each proxy.
use Rattle.std.proofs.Common.{◌≡◌, ◌≢◌, ℕ, ◌+◌, ◌<◌, ◌≤◌, ◌⊎◌, inl, inr, Bool, nat_lt, List, [], ◌∷◌, ◌++◌, set, drop, slice_get, Some, sym, ap, ◌∙◌, arith}
use Rattle.std.specs.Prelude.{if◌then◌else◌}
use Rattle.std.proofs.lemmas.Bool.{cases_lt, lt-ltb, le-ltb}
use Rattle.std.proofs.lemmas.Option.{get_or_from_slice_get}
use Rattle.inboxes.specs.Blanks.{BlankSendersView, AreBlankSenders}
use Rattle.inboxes.specs.Ends.{IsEach}
use Rattle.inboxes.specs.Places.{Place, no_place, place_at}
use Rattle.inboxes.proofs.Each.{each_as, each_set, drop_next}

-- the given number of proxies, of which the first ones have an end of one channel more
abbrev pub AreRowsTo : ℕ → ℕ → List Place → Place → List BlankSendersView → Type 0
AreRowsTo done proxies places place =
    IsEach (λ p. record {
      proxy = p;
      places = (if nat_lt p done then places ++ place ∷ [] else places);
    }) proxies

lt_same : (j k : ℕ) → j ≢ k → nat_lt j k ≡ nat_lt j (k + 1)
lt_same j k apart = by (cases_lt j k)
  where
    by : (j < k) ⊎ (k ≤ j) → nat_lt j k ≡ nat_lt j (k + 1)
    by (inl below) = lt-ltb j k below ∙ sym (lt-ltb j (k + 1) (omega arith))
    by (inr above) = le-ltb j k above ∙ sym (le-ltb j (k + 1) (omega arith))

-- the row of a proxy that has an end of one channel more, if it has
abbrev row : List Place → Place → ℕ → Bool → BlankSendersView
row places place p more = record { proxy = p; places = (if more then places ++ place ∷ [] else places) }

pub rows_start : (proxies : ℕ) (places : List Place) (place : Place) (rows : List BlankSendersView)
    → AreBlankSenders proxies places rows → AreRowsTo 0 proxies places place rows
rows_start proxies places place rows are =
    each_as (λ p. record { proxy = p; places = places }) (λ p. row places place p (nat_lt p 0)) proxies rows are
    (λ p there. ap (row places place p) (sym (le-ltb p 0 (omega arith))))

pub rows_step : (proxies k : ℕ) (places : List Place) (place : Place) (rows : List BlankSendersView) (before after : BlankSendersView)
    → AreRowsTo k proxies places place rows → slice_get rows k ≡ Some before
    → after ≡ record { proxy = before.proxy; places = before.places ++ place ∷ [] }
    → AreRowsTo (k + 1) proxies places place (set rows k after)
rows_step proxies k places place rows before after are at is =
    each_set (λ p. row places place p (nat_lt p k)) (λ p. row places place p (nat_lt p (k + 1))) proxies k rows after are
    (λ j apart. ap (row places place j) (lt_same j k apart))
    (is
    ∙ ap (λ (r : BlankSendersView). record { proxy = r.proxy; places = r.places ++ place ∷ [] })
    (are.1 k before at ∙ ap (row places place k) (le-ltb k k (omega arith)))
    ∙ ap (row places place k) (sym (lt-ltb k (k + 1) (omega arith))))

pub rows_end : (proxies : ℕ) (places : List Place) (place : Place) (rows : List BlankSendersView)
    → AreRowsTo proxies proxies places place rows → AreBlankSenders proxies (places ++ place ∷ []) rows
rows_end proxies places place rows are =
    each_as (λ p. row places place p (nat_lt p proxies)) (λ p. record { proxy = p; places = places ++ place ∷ [] }) proxies rows are
    (λ p there. ap (row places place p) (lt-ltb p proxies there))

-- the channel that comes next among those left is that of its place
pub next_place : (places : List Place) (k : ℕ) (place : Place) (rest : List Place)
    → drop k places ≡ place ∷ rest → place ≡ place_at places k
next_place places k place rest left =
    sym (get_or_from_slice_get places k place no_place (drop_next places k place rest left).0)
