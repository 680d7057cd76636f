-- Workers that have ended, and values that no worker ends as.
use Rattle.std.proofs.Common.{◌≡◌, refl, sym, ap, ◌∙◌, subst, ℕ, zero, suc, ◌<◌, ◌≤◌, ◌⊎◌, inl, inr, List, [], ◌∷◌, arith}
use Rattle.std.proofs.lemmas.Option.{same_Some}
use Rattle.inboxes.specs.declared.views.MessageView.{MessageView}
use Rattle.inboxes.specs.declared.views.MessageKind.TheVariants as kinds
use Rattle.inboxes.specs.MessageViews.{close_view, end_view, request_view}
use Rattle.workers.specs.Edges.{ACloseWasIgnored, ACloseWasObeyed, ARowWasDropped, ATurnThatDidNotCome, AWorkerThatClosedItself, AWorkerThatServedAll, AWorkerThatWantedMemory, AWorkerThatWasCutOff, AnEndIsMissing, two_asked, two_ends}
use Rattle.workers.specs.Workers.{HasClose, HasRequest, IsAsked, IsRequestOf}

-- ---- what is not among messages

none_asked : (r row : ℕ) → IsAsked r [] row → ⊥
none_asked r row (place, message, at, is) = absurd (cc)

first_not_asked : (r row : ℕ) (x : MessageView) (xs : List MessageView) → (IsRequestOf r row x → ⊥) → (IsAsked r xs row → ⊥) → IsAsked r (x ∷ xs) row → ⊥
first_not_asked r row x xs one others (zero, message, at, is) = one (subst (IsRequestOf r row) (sym (same_Some x message at)) is)
first_not_asked r row x xs one others (suc place, message, at, is) = others (place, message, at, is)

none_closes : HasClose [] → ⊥
none_closes (place, message, at, is) = absurd (cc)

first_not_close : (x : MessageView) (xs : List MessageView) → (x.kind ≡ kinds.Close → ⊥) → (HasClose xs → ⊥) → HasClose (x ∷ xs) → ⊥
first_not_close x xs one others (zero, message, at, is) = one (ap (λ (t : MessageView). t.kind) (same_Some x message at) ∙ is)
first_not_close x xs one others (suc place, message, at, is) = others (place, message, at, is)

end_asks_not : (p r row : ℕ) → IsRequestOf r row (end_view p) → ⊥
end_asks_not p r row is = let kind : kinds.End ≡ kinds.Request = is.kind in absurd (cc)

close_asks_not : (p r row : ℕ) → IsRequestOf r row (close_view p) → ⊥
close_asks_not p r row is = let kind : kinds.Close ≡ kinds.Request = is.kind in absurd (cc)

other_row : (p r asked row : ℕ) → (asked ≡ row → ⊥) → IsRequestOf r row (request_view p r asked) → ⊥
other_row p r asked row apart is = apart is.row_is

other_resolver : (p to r asked row : ℕ) → (to ≡ r → ⊥) → IsRequestOf r row (request_view p to asked) → ⊥
other_resolver p to r asked row apart is = apart is.to

end_closes_not : (p : ℕ) → (end_view p).kind ≡ kinds.Close → ⊥
end_closes_not p is = let kind : kinds.End ≡ kinds.Close = is in absurd (cc)

request_closes_not : (p to row : ℕ) → (request_view p to row).kind ≡ kinds.Close → ⊥
request_closes_not p to row is = let kind : kinds.Request ≡ kinds.Close = is in absurd (cc)

-- two Ends ask nothing, and close nothing
ends_ask_not : (r row : ℕ) → IsAsked r two_ends row → ⊥
ends_ask_not r row = first_not_asked r row (end_view 0) (end_view 1 ∷ []) (end_asks_not 0 r row) (first_not_asked r row (end_view 1) [] (end_asks_not 1 r row) (none_asked r row))

ends_close_not : HasClose two_ends → ⊥
ends_close_not = first_not_close (end_view 0) (end_view 1 ∷ []) (end_closes_not 0) (first_not_close (end_view 1) [] (end_closes_not 1) none_closes)

two_close_not : HasClose two_asked → ⊥
two_close_not =
    first_not_close (request_view 1 0 1) (request_view 0 0 0 ∷ two_ends) (request_closes_not 1 0 1)
    (first_not_close (request_view 0 0 0) two_ends (request_closes_not 0 0 0) ends_close_not)

-- ---- two requests

late_not_asked : (row : ℕ) → 2 ≤ row → IsAsked 0 two_asked row → ⊥
late_not_asked row late =
    first_not_asked 0 row (request_view 1 0 1) (request_view 0 0 0 ∷ two_ends) (other_row 1 0 1 row (λ same. omega (arith, same, late)))
    (first_not_asked 0 row (request_view 0 0 0) two_ends (other_row 0 0 0 row (λ same. omega (arith, same, late))) (ends_ask_not 0 row))

both_asked : (row : ℕ) → row ≤ 1 → IsAsked 0 two_asked row
both_asked zero within = (1, request_view 0 0 0, refl, record { kind = refl; to = refl; row_is = refl })
both_asked (suc zero) within = (0, request_view 1 0 1, refl, record { kind = refl; to = refl; row_is = refl })
both_asked (suc (suc row)) within = absurd (omega (arith, within))

below : (n row : ℕ) → (n ≤ row → ⊥) → row < n
below n row not = omega (arith, not)

pub a_worker_that_served_all : AWorkerThatServedAll
a_worker_that_served_all =
    record {
      resolver = refl;
      first = refl;
      served = λ sound row asked. below 2 row (λ late. late_not_asked row late (asked row (omega arith)));
      told = λ closes. absurd (two_close_not closes);
      closed_by = λ closed. absurd (cc);
      wanted_by = λ wanted. absurd (cc);
      ends = λ whole. refl;
    }

pub a_row_was_dropped : ARowWasDropped
a_row_was_dropped served = let one : 1 < 1 = served refl 1 both_asked in absurd (omega (arith, one))

pub a_turn_that_did_not_come : ATurnThatDidNotCome
a_turn_that_did_not_come =
    record {
      resolver = refl;
      first = refl;
      served = λ sound row asked. absurd (first_not_asked 0 0 (request_view 1 0 1) two_ends (other_row 1 0 1 0 (λ same. omega (arith, same))) (ends_ask_not 0 0) (asked 0 (omega arith)));
      told = λ closes. absurd (first_not_close (request_view 1 0 1) two_ends (request_closes_not 1 0 1) ends_close_not closes);
      closed_by = λ closed. absurd (cc);
      wanted_by = λ wanted. absurd (cc);
      ends = λ whole. refl;
    }

one_closes_not : HasClose (end_view 0 ∷ []) → ⊥
one_closes_not = first_not_close (end_view 0) [] (end_closes_not 0) none_closes

pub a_worker_that_was_cut_off : AWorkerThatWasCutOff
a_worker_that_was_cut_off =
    record {
      resolver = refl;
      first = refl;
      served = λ sound row asked. absurd (first_not_asked 0 0 (end_view 0) [] (end_asks_not 0 0 0) (none_asked 0 0) (asked 0 (omega arith)));
      told = λ closes. absurd (one_closes_not closes);
      closed_by = λ closed. absurd (cc);
      wanted_by = λ wanted. absurd (cc);
      ends = λ whole. absurd (cc);
    }

pub an_end_is_missing : AnEndIsMissing
an_end_is_missing ended = let one : 1 ≡ 2 = ended.ends refl in absurd (omega (arith, one))

pub a_close_was_obeyed : ACloseWasObeyed
a_close_was_obeyed =
    record {
      resolver = refl;
      first = refl;
      served = λ sound. absurd (cc);
      told = λ closes. refl;
      closed_by = λ closed. inl (0, close_view 0, refl, refl);
      wanted_by = λ wanted. absurd (cc);
      ends = λ whole. refl;
    }

pub a_close_was_ignored : ACloseWasIgnored
a_close_was_ignored ended = let closed = ended.told (0, close_view 0, refl, refl) in absurd (cc)

pub a_worker_that_closed_itself : AWorkerThatClosedItself
a_worker_that_closed_itself ended = by (ended.closed_by refl)
  where
    by : HasClose two_ends ⊎ HasRequest 0 two_ends → ⊥
    by (inl closes) = ends_close_not closes
    by (inr (row, asked)) = ends_ask_not 0 row asked

pub a_worker_that_wanted_memory : AWorkerThatWantedMemory
a_worker_that_wanted_memory ended =
    let (row, asked) = ended.wanted_by refl in
    first_not_asked 0 row (request_view 0 1 0) two_ends (other_resolver 0 1 0 0 row (λ same. omega (arith, same))) (ends_ask_not 0 row) asked
