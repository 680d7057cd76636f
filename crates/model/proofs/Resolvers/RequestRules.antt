-- The request for a record keeps the rule of a request, and what the rule says of its parts.
use Rattle.std.proofs.Common.{◌≡◌, refl, sym, ap, ◌∙◌, ℕ, zero, suc, ◌<◌, ◌≤◌, Bool, true, false, ◌||◌, if◌then◌else◌, nat_eq, is_some, Some, None, List, [], ◌∷◌, filter, All, Contains, slice_get, arith}
use Rattle.std.specs.List.{list_any}
use Rattle.std.proofs.lemmas.List.Elements.{All-nil, All-cons, All-weaker}
use Rattle.std.proofs.lemmas.Option.{none-some, same_Some}
use Rattle.system_keys.specs.Changes.{is_state}
use Rattle.model.specs.declared.part.Part.{Part}
use Rattle.model.specs.declared.unseen.Carried.{Carried}
use Rattle.model.specs.declared.unseen.StateMark.{StateMark}
use Rattle.model.specs.Transactions.{StampedTransaction, is_state_transaction, all_reads}
use Rattle.model.specs.Owners.{asks_read, asks_write}
use Rattle.model.specs.Records.{Record}
use Rattle.model.specs.Shares.{read_bound, part_back_to, asks_back_to, parts_back_to, share_back_to}
use Rattle.model.specs.Journal.{carried_to}
use Rattle.model.specs.Requests.{request_back_to, marks_from}
use Rattle.model.specs.RequestRules.{NumbersRise, part_numbers}
use Rattle.model.specs.Laws.Resolvers.{RequestsKeepTheRule, LaterPartsHaveGreaterNumbers}

-- ---- the numbers rise

rise_from_less : (less least : ℕ) (parts : List Part) → less ≤ least → NumbersRise least parts → NumbersRise less parts
rise_from_less less least [] h rise = tt
rise_from_less less least (part ∷ parts) h rise =
    let first : least ≤ part.number = rise.0 in
    (omega arith, rise.1)

pub parts_rise : (oldest : ℕ) (rec : Record) (r n : ℕ) (ts : List StampedTransaction) → NumbersRise n (parts_back_to oldest rec r n ts)
parts_rise oldest rec r n [] = tt
parts_rise oldest rec r n (t ∷ ts) = by (asks_back_to oldest rec r t) (parts_rise oldest rec r (suc n) ts)
  where
    by : (b : Bool) → NumbersRise (suc n) (parts_back_to oldest rec r (suc n) ts) → NumbersRise n (if b then part_back_to oldest rec r n t ∷ parts_back_to oldest rec r (suc n) ts else parts_back_to oldest rec r (suc n) ts)
    by true later = (omega arith, later)
    by false later = rise_from_less n (suc n) (parts_back_to oldest rec r (suc n) ts) (omega arith) later

number_from : (least : ℕ) (parts : List Part) (place n : ℕ) → NumbersRise least parts → slice_get (part_numbers parts) place ≡ Some n → least ≤ n
number_from least [] place n rise at = absurd (none-some n at)
number_from least (part ∷ parts) zero n rise at =
    let same : part.number ≡ n = same_Some part.number n at in
    let up : least ≤ part.number = rise.0 in
    omega (arith, same, up)
number_from least (part ∷ parts) (suc place) n rise at =
    let later = number_from (suc part.number) parts place n rise.1 at in
    let up : least ≤ part.number = rise.0 in
    omega (arith, later, up)

later_number : (least : ℕ) (parts : List Part) (place later n m : ℕ) → NumbersRise least parts → place < later → slice_get (part_numbers parts) place ≡ Some n → slice_get (part_numbers parts) later ≡ Some m → n < m
later_number least [] place later n m rise before at there = absurd (none-some n at)
later_number least (part ∷ parts) place zero n m rise before at there = absurd (omega arith)
later_number least (part ∷ parts) zero (suc later) n m rise before at there =
    let same : part.number ≡ n = same_Some part.number n at in
    let up = number_from (suc part.number) parts later m rise.1 there in
    omega (arith, same, up)
later_number least (part ∷ parts) (suc place) (suc later) n m rise before at there = later_number (suc part.number) parts place later n m rise.1 (omega arith) at there

pub later_parts_have_greater_numbers : LaterPartsHaveGreaterNumbers
later_parts_have_greater_numbers q place later n m rule before at there = later_number 0 q.share place later n m rule.rising before at there

-- ---- each mark names a part

abbrev IsNamed : (parts : List Part) (mark : StateMark) → Type 0
IsNamed parts mark = Contains (part_numbers parts) mark.number

named_behind : (part : Part) (parts : List Part) (mark : StateMark) → IsNamed parts mark → IsNamed (part ∷ parts) mark
named_behind part parts mark (k, within, at) = (suc k, omega arith, at)

-- a state transaction asks every resolver
pub state_asks : (oldest : ℕ) (rec : Record) (r : ℕ) (t : StampedTransaction) → is_state_transaction t ≡ true → asks_back_to oldest rec r t ≡ true
state_asks oldest rec r t is = ap (λ (b : Bool). b || list_any (asks_read rec.moves (read_bound oldest t) r) (all_reads t) || list_any (asks_write rec.moves r) t.writes) is

marks_named : (oldest : ℕ) (rec : Record) (r n : ℕ) (ts : List StampedTransaction) → All (IsNamed (parts_back_to oldest rec r n ts)) (marks_from r n ts)
marks_named oldest rec r n [] = All-nil (IsNamed [])
marks_named oldest rec r n (t ∷ ts) = by (asks_back_to oldest rec r t) refl (is_state_transaction t) refl (marks_named oldest rec r (suc n) ts)
  where
    own : Part
    own = part_back_to oldest rec r n t

    parts : List Part
    parts = parts_back_to oldest rec r (suc n) ts

    marks : List StateMark
    marks = marks_from r (suc n) ts

    mark : StateMark
    mark = record { number = n; carried = carried_to r t }

    behind : All (IsNamed parts) marks → All (IsNamed (own ∷ parts)) marks
    behind later = All-weaker (IsNamed parts) (IsNamed (own ∷ parts)) (λ (one : StateMark) named. named_behind own parts one named) marks later

    by : (asking : Bool) → asks_back_to oldest rec r t ≡ asking → (state : Bool) → is_state_transaction t ≡ state → All (IsNamed parts) marks
        → All (IsNamed (if asking then own ∷ parts else parts)) (if state then mark ∷ marks else marks)
    by true asks true is later = All-cons (IsNamed (own ∷ parts)) mark marks (0, omega arith, refl) (behind later)
    by true asks false is later = behind later
    by false asks true is later = let both : true ≡ false = sym (state_asks oldest rec r t is) ∙ asks in absurd (cc)
    by false asks false is later = later

-- ---- marks have their content

abbrev HasContent : (r : ℕ) (mark : StateMark) → Type 0
HasContent r mark = is_some mark.carried ≡ nat_eq r 0

some_if : (b : Bool) (content : Carried) → is_some (if b then Some content else None) ≡ b
some_if true content = refl
some_if false content = refl

marks_have_content : (r n : ℕ) (ts : List StampedTransaction) → All (HasContent r) (marks_from r n ts)
marks_have_content r n [] = All-nil (HasContent r)
marks_have_content r n (t ∷ ts) = by (is_state_transaction t) (marks_have_content r (suc n) ts)
  where
    by : (b : Bool) → All (HasContent r) (marks_from r (suc n) ts)
        → All (HasContent r) (if b then (record { number = n; carried = carried_to r t }) ∷ marks_from r (suc n) ts else marks_from r (suc n) ts)
    by true later =
        All-cons (HasContent r) (record { number = n; carried = carried_to r t }) (marks_from r (suc n) ts)
        (some_if (nat_eq r 0) (record { mutations = filter is_state t.changes; lock_aware = t.lock_aware })) later
    by false later = later

-- ---- all three

pub requests_keep_the_rule : RequestsKeepTheRule
unfolding request_back_to share_back_to
requests_keep_the_rule oldest rec received r =
    record {
      rising = parts_rise oldest rec r 0 rec.batch;
      named = marks_named oldest rec r 0 rec.batch;
      carried = marks_have_content r 0 rec.batch;
    }
