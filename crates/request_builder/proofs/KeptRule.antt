-- The request that is built keeps what every request keeps, whatever lists it is built by.
use Rattle.std.proofs.Common.{◌≡◌, ℕ, suc, ◌≤◌, refl, sym, subst, Bool, true, false, cond, nat_eq, is_some, Some, None, List, [], ◌∷◌, ◌++◌, filter, All, Contains, arith}
use Rattle.std.proofs.lemmas.List.{map-append}
use Rattle.std.proofs.lemmas.List.Elements.{All-nil, All-cons, All-append, All-weaker, Contains-append_right}
use Rattle.system_keys.specs.Changes.{is_state}
use Rattle.model.specs.declared.part.Part.{Part}
use Rattle.model.specs.declared.unseen.Carried.{Carried}
use Rattle.model.specs.declared.unseen.StateMark.{StateMark}
use Rattle.model.specs.Transactions.{StampedTransaction}
use Rattle.model.specs.Journal.{carried_to}
use Rattle.model.specs.Requests.{Request}
use Rattle.model.specs.RequestRules.{NumbersRise, part_numbers, KeepsRequestRule}
use Rattle.request_builder.specs.declared.asked_resolvers.AskedResolvers.{AskedResolvers}
use Rattle.request_builder.specs.AskedResolvers.{part_for, is_part_sent, sent_part, parts_for, mark_by, marks_for}

-- ---- the numbers rise

rise_from_less : (less least : ℕ) (parts : List Part) → less ≤ least → NumbersRise least parts → NumbersRise less parts
rise_from_less less least [] h rise = tt
rise_from_less less least (part ∷ parts) h rise =
    let first : least ≤ part.number = rise.0 in
    (omega arith, rise.1)

parts_rise : (r n : ℕ) (ts : List StampedTransaction) (askings : List AskedResolvers) → NumbersRise n (parts_for r n ts askings)
parts_rise r n [] askings = tt
parts_rise r n (t ∷ ts) [] = tt
parts_rise r n (t ∷ ts) (asking ∷ askings) =
    by (is_part_sent asking.is_state (part_for r n t asking)) (parts_rise r (suc n) ts askings)
  where
    by : (b : Bool) → NumbersRise (suc n) (parts_for r (suc n) ts askings) → NumbersRise n (cond b (part_for r n t asking ∷ []) [] ++ parts_for r (suc n) ts askings)
    by true later = (omega arith, later)
    by false later = rise_from_less n (suc n) (parts_for r (suc n) ts askings) (omega arith) later

-- ---- each mark names a part

abbrev IsNamed : (parts : List Part) (mark : StateMark) → Type 0
IsNamed parts mark = Contains (part_numbers parts) mark.number

named_behind : (more parts : List Part) (mark : StateMark) → IsNamed parts mark → IsNamed (more ++ parts) mark
named_behind more parts mark named =
    let behind = Contains-append_right (part_numbers more) (part_numbers parts) mark.number named in
    subst (λ (numbers : List ℕ). Contains numbers mark.number) (sym (map-append (λ (part : Part). part.number) more parts)) behind

own_named : (r n : ℕ) (t : StampedTransaction) (asking : AskedResolvers) (later : List Part) → All (IsNamed (sent_part asking.is_state (part_for r n t asking) ++ later)) (mark_by r n t asking)
own_named r n t asking later = by asking.is_state
  where
    by : (b : Bool) → All (IsNamed (sent_part b (part_for r n t asking) ++ later)) (cond b (record { number = n; carried = carried_to r t } ∷ []) [])
    by true =
        All-cons (IsNamed (part_for r n t asking ∷ later)) (record { number = n; carried = carried_to r t }) [] (0, omega arith, refl) (All-nil (IsNamed (part_for r n t asking ∷ later)))
    by false = All-nil (IsNamed (sent_part false (part_for r n t asking) ++ later))

marks_named : (r n : ℕ) (ts : List StampedTransaction) (askings : List AskedResolvers) → All (IsNamed (parts_for r n ts askings)) (marks_for r n ts askings)
marks_named r n [] askings = All-nil (IsNamed [])
marks_named r n (t ∷ ts) [] = All-nil (IsNamed [])
marks_named r n (t ∷ ts) (asking ∷ askings) =
    let later = parts_for r (suc n) ts askings in
    let more = sent_part asking.is_state (part_for r n t asking) in
    All-append (IsNamed (more ++ later)) (mark_by r n t asking) (marks_for r (suc n) ts askings) (own_named r n t asking later)
    (All-weaker (IsNamed later) (IsNamed (more ++ later)) (λ (mark : StateMark) named. named_behind more later mark named) (marks_for r (suc n) ts askings) (marks_named r (suc n) ts askings))

-- ---- marks have their content

abbrev HasContent : (r : ℕ) (mark : StateMark) → Type 0
HasContent r mark = is_some mark.carried ≡ nat_eq r 0

some_if : (b : Bool) (content : Carried) → is_some (cond b (Some content) None) ≡ b
some_if true content = refl
some_if false content = refl

own_content : (r n : ℕ) (t : StampedTransaction) (asking : AskedResolvers) → All (HasContent r) (mark_by r n t asking)
own_content r n t asking = by asking.is_state
  where
    by : (b : Bool) → All (HasContent r) (cond b (record { number = n; carried = carried_to r t } ∷ []) [])
    by true =
        All-cons (HasContent r) (record { number = n; carried = carried_to r t }) [] (some_if (nat_eq r 0) (record { mutations = filter is_state t.changes; lock_aware = t.lock_aware })) (All-nil (HasContent r))
    by false = All-nil (HasContent r)

marks_have_content : (r n : ℕ) (ts : List StampedTransaction) (askings : List AskedResolvers) → All (HasContent r) (marks_for r n ts askings)
marks_have_content r n [] askings = All-nil (HasContent r)
marks_have_content r n (t ∷ ts) [] = All-nil (HasContent r)
marks_have_content r n (t ∷ ts) (asking ∷ askings) =
    All-append (HasContent r) (mark_by r n t asking) (marks_for r (suc n) ts askings) (own_content r n t asking) (marks_have_content r (suc n) ts askings)

-- ---- all three

pub request_kept : (q : Request) (batch : List StampedTransaction) (askings : List AskedResolvers) → q.share ≡ parts_for q.resolver 0 batch askings → q.states ≡ marks_for q.resolver 0 batch askings → KeepsRequestRule q
request_kept q batch askings share_is states_is =
    record {
      rising = subst (NumbersRise 0) (sym share_is) (parts_rise q.resolver 0 batch askings);
      named =
          subst (λ (parts : List Part). All (IsNamed parts) q.states) (sym share_is)
          (subst (λ (marks : List StateMark). All (IsNamed (parts_for q.resolver 0 batch askings)) marks) (sym states_is) (marks_named q.resolver 0 batch askings));
      carried = subst (λ (marks : List StateMark). All (HasContent q.resolver) marks) (sym states_is) (marks_have_content q.resolver 0 batch askings);
    }
