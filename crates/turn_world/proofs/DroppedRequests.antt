-- The requests for a row are dropped.
use Rattle.std.proofs.Common.{◌≡◌, refl, sym, ap, subst, ℕ, zero, suc, ◌∙◌, List, [], ◌∷◌, map, slice_get, slice_set, Some, ◌⊎◌, inl, inr}
use Rattle.model.proofs.Worlds.InStep.{set_places}
use Rattle.turn_world.specs.Kept.{IsJudgedByAll, IsRowKept, AreRowsKept, HasDroppedRequests}
use Rattle.turn_world.specs.declared.kept_record.KeptRecord.{KeptRecord}
use Rattle.turn_world.specs.declared.sent_requests.SentRequests.{SentRequests}

map_set_same : {X Y : Type 0} (f : X → Y) (xs : List X) (i : ℕ) (x y : X) → slice_get xs i ≡ Some x → f y ≡ f x → map f (slice_set xs i y) ≡ map f xs
map_set_same f [] i x y at same = refl
map_set_same {X} {Y} f (z ∷ xs) zero x y at same = let is : z ≡ x = cc in ap (λ (v : Y). v ∷ map f xs) (same ∙ sym (ap f is))
map_set_same {X} {Y} f (z ∷ xs) (suc i) x y at same = ap (λ (vs : List Y). f z ∷ vs) (map_set_same f xs i x y at same)

pub requests_dropped : (rows : List KeptRecord) (row : ℕ) (one : KeptRecord) (kept : SentRequests) → slice_get rows row ≡ Some one → kept.requests.items ≡ [] → HasDroppedRequests row rows (slice_set rows row (record { rec = one.rec; proxy = one.proxy; received = one.received; sent = one.sent; kept = kept }))
requests_dropped rows row one kept at is =
    record {
      records = map_set_same (λ (x : KeptRecord). x.rec.known) rows row one new at refl;
      received = map_set_same (λ (x : KeptRecord). x.received) rows row one new at refl;
      sent = map_set_same (λ (x : KeptRecord). x.sent.known) rows row one new at refl;
      none = λ after at_after. none after (set_places rows row new row after at_after);
      kept = λ counts judged all. λ i other at_other. by counts judged all i other (set_places rows row new i other at_other);
    }
  where
    new : KeptRecord
    new = record { rec = one.rec; proxy = one.proxy; received = one.received; sent = one.sent; kept = kept }

    none : (after : KeptRecord) → ((row ≡ row) × (after ≡ new)) ⊎ ((row ≡ row → ⊥) × (slice_get rows row ≡ Some after)) → after.kept.requests.items ≡ []
    none after (inl (same, after_is)) = ap (λ (x : KeptRecord). x.kept.requests.items) after_is ∙ is
    none after (inr (other, there)) = absurd (other refl)

    by : (counts : List ℕ) → IsJudgedByAll counts row → AreRowsKept counts rows → (i : ℕ) (other : KeptRecord) → ((i ≡ row) × (other ≡ new)) ⊎ ((i ≡ row → ⊥) × (slice_get rows i ≡ Some other)) → IsRowKept counts i other
    by counts judged all i other (inl (same, new_is)) =
        subst (IsRowKept counts i) (sym new_is) (subst (λ (n : ℕ). IsRowKept counts n new) (sym same) (record { proxy = (all row one at).proxy; requests = inr (is, judged) }))
    by counts judged all i other (inr (elsewhere, there)) = all i other there
