-- The tests of what every request keeps hold exactly if it does.
use Rattle.std.proofs.Common.{◌≡◌, ℕ, suc, refl, sym, ap, ◌∙◌, Bool, true, false, not, ◌||◌, cond, nat_eq, nat_le, List, [], ◌∷◌, is_some, Contains, arith}
use Rattle.std.specs.List.{list_all, list_any}
use Rattle.std.proofs.lemmas.Bool.{leb-true, le-leb, and_parts, and_from, eqb-true, eq-eqb, or_left, or_right, false≢true}
use Rattle.std.proofs.lemmas.List.Elements.{All-weaker, Contains-append_right}
use Rattle.std.proofs.lemmas.List.Sums.{AllPass-from_list_all, list_all-from_AllPass}
use Rattle.std.proofs.lemmas.Map.Made.{Contains-tail}
use Rattle.model.specs.declared.part.Part.{Part}
use Rattle.model.specs.declared.unseen.StateMark.{StateMark}
use Rattle.model.specs.Requests.{Request}
use Rattle.model.specs.RequestRules.{NumbersRise, part_numbers, KeepsRequestRule}
use Rattle.request_builder.specs.Requests.{part_numbers_rise, mark_names_part, mark_fits_resolver}

-- ---- the numbers rise

pub rise_from : (least : ℕ) (parts : List Part) → part_numbers_rise least parts ≡ true → NumbersRise least parts
rise_from least [] h = tt
rise_from least (part ∷ parts) h =
    let both = and_parts (nat_le least part.number) (part_numbers_rise (suc part.number) parts) h in
    (leb-true least part.number both.0, rise_from (suc part.number) parts both.1)

rise_test : (least : ℕ) (parts : List Part) → NumbersRise least parts → part_numbers_rise least parts ≡ true
rise_test least [] h = refl
rise_test least (part ∷ parts) h =
    and_from (nat_le least part.number) (part_numbers_rise (suc part.number) parts) (le-leb least part.number h.0) (rise_test (suc part.number) parts h.1)

-- ---- the mark names a part

contains_next : (x n : ℕ) (numbers : List ℕ) → Contains numbers n → Contains (x ∷ numbers) n
contains_next x n numbers at = Contains-append_right (x ∷ []) numbers n at

contains_first : (x n : ℕ) (numbers : List ℕ) → x ≡ n → Contains (x ∷ numbers) n
contains_first x n numbers same = (0, omega arith, same)

pub named_from : (parts : List Part) (n : ℕ) → list_any (λ (part : Part). nat_eq part.number n) parts ≡ true → Contains (part_numbers parts) n
named_from [] n h = absurd (false≢true h)
named_from (part ∷ parts) n h =
    by (nat_eq part.number n) refl (named_from parts n)
  where
    by : (t : Bool) → nat_eq part.number n ≡ t → (list_any (λ (part : Part). nat_eq part.number n) parts ≡ true → Contains (part_numbers parts) n) → Contains (part.number ∷ part_numbers parts) n
    by true e later = contains_first part.number n (part_numbers parts) (eqb-true part.number n e)
    by false e later = contains_next part.number n (part_numbers parts) (later (ap (λ t. t || list_any (λ (part : Part). nat_eq part.number n) parts) (sym e) ∙ h))

pub named_test : (parts : List Part) (n : ℕ) → Contains (part_numbers parts) n → list_any (λ (part : Part). nat_eq part.number n) parts ≡ true
named_test [] n at = absurd (omega (arith, at.1))
named_test (part ∷ parts) n at = by (nat_eq part.number n) refl (named_test parts n)
  where
    by : (t : Bool) → nat_eq part.number n ≡ t → (Contains (part_numbers parts) n → list_any (λ (part : Part). nat_eq part.number n) parts ≡ true) → list_any (λ (part : Part). nat_eq part.number n) (part ∷ parts) ≡ true
    by true e later = or_left (nat_eq part.number n) _ e
    by false e later = or_right (nat_eq part.number n) _ (later (Contains-tail part.number (part_numbers parts) n (λ same. false≢true (sym e ∙ eq-eqb part.number n same)) at))

-- ---- the marks have their content

carried_from : (resolver : ℕ) (mark : StateMark) → mark_fits_resolver resolver mark ≡ true → is_some mark.carried ≡ nat_eq resolver 0
carried_from resolver mark h = by (nat_eq resolver 0) (is_some mark.carried) h
  where
    by : (zero_is some : Bool) → cond zero_is some (not some) ≡ true → some ≡ zero_is
    by true true e = refl
    by true false e = e
    by false true e = sym e
    by false false e = refl

carried_test : (resolver : ℕ) (mark : StateMark) → is_some mark.carried ≡ nat_eq resolver 0 → mark_fits_resolver resolver mark ≡ true
carried_test resolver mark h = by (nat_eq resolver 0) (is_some mark.carried) h
  where
    by : (zero_is some : Bool) → some ≡ zero_is → cond zero_is some (not some) ≡ true
    by true true e = refl
    by true false e = e
    by false true e = sym e
    by false false e = refl

-- ---- all three

pub is_request_from : (q : Request) → part_numbers_rise 0 q.share ≡ true → list_all (mark_names_part q.share) q.states ≡ true → list_all (mark_fits_resolver q.resolver) q.states ≡ true → KeepsRequestRule q
is_request_from q rise named carried =
    record {
      rising = rise_from 0 q.share rise;
      named = All-weaker (λ (mark : StateMark). mark_names_part q.share mark ≡ true) (λ (mark : StateMark). Contains (part_numbers q.share) mark.number) (λ (mark : StateMark) h. named_from q.share mark.number h) q.states (AllPass-from_list_all (mark_names_part q.share) q.states named);
      carried = All-weaker (λ (mark : StateMark). mark_fits_resolver q.resolver mark ≡ true) (λ (mark : StateMark). is_some mark.carried ≡ nat_eq q.resolver 0) (carried_from q.resolver) q.states (AllPass-from_list_all (mark_fits_resolver q.resolver) q.states carried);
    }

pub rise_of : (q : Request) → KeepsRequestRule q → part_numbers_rise 0 q.share ≡ true
rise_of q is = rise_test 0 q.share is.rising

pub named_of : (q : Request) → KeepsRequestRule q → list_all (mark_names_part q.share) q.states ≡ true
named_of q is = list_all-from_AllPass (mark_names_part q.share) q.states (All-weaker (λ (mark : StateMark). Contains (part_numbers q.share) mark.number) (λ (mark : StateMark). mark_names_part q.share mark ≡ true) (λ (mark : StateMark) h. named_test q.share mark.number h) q.states is.named)

pub carried_of : (q : Request) → KeepsRequestRule q → list_all (mark_fits_resolver q.resolver) q.states ≡ true
carried_of q is = list_all-from_AllPass (mark_fits_resolver q.resolver) q.states (All-weaker (λ (mark : StateMark). is_some mark.carried ≡ nat_eq q.resolver 0) (λ (mark : StateMark). mark_fits_resolver q.resolver mark ≡ true) (carried_test q.resolver) q.states is.carried)
