-- The two forms of a keyServers value: one spelling of each, and no value of both.
use Rattle.std.proofs.Common.{◌≡◌, ℕ, suc, ◌<◌, Bool, true, false, cond, ◌&&◌, List, [], ◌∷◌, ◌++◌, length, Option, Some, None, Ok, Err, refl, sym, ap, subst, ◌∙◌, arith, get_or}
use Rattle.std.specs.Prelude.{nat_eq, IsTrue, ◌↔◌}
use Rattle.std.proofs.lemmas.Bool.{and_parts, eqb-true}
use Rattle.std.proofs.lemmas.Bool.Decides.{nat_tests}
use Rattle.system_keys.specs.declared.refusal.RowFault.{RowFault}
use Rattle.system_keys.specs.declared.location.Location.{Location}
use Rattle.system_keys.specs.declared.location.Location.TheVariants as locations
use Rattle.system_keys.specs.Rows.{Id, Servers, counted_ids, key_servers_value, servers_at, ids_at, is_of_rows}
use Rattle.system_keys.specs.ListedTags.{ListedTags, listed_tags_at, listed_tags_fault, listed_tags_value}
use Rattle.system_keys.specs.Locations.{location_value, HasValue, after_two_zeros, location_by, location_at}
use Rattle.system_keys.proofs.RowLaws.{bind_ok, servers_spelled, servers_again, servers_content, FaultsAreContent, bind_content}
use Rattle.system_keys.proofs.ListedTagLaws.{lists_spelled, lists_again, lists_content}

-- ---- which form a value has

-- a value that begins with two zero bytes, and has more
record Zeros (bytes lists : List ℕ) : Type 0 where
  byte : ℕ
  more : List ℕ
  bytes_are : bytes ≡ 0 ∷ 0 ∷ byte ∷ more
  lists_are : lists ≡ byte ∷ more

zeros_by : (t : Bool) (a b c : ℕ) (more lists : List ℕ) → (nat_eq a 0 && nat_eq b 0) ≡ t → cond t (Some (c ∷ more)) None ≡ Some lists → Zeros (a ∷ b ∷ c ∷ more) lists
zeros_by true a b c more lists h e =
    let parts = and_parts (nat_eq a 0) (nat_eq b 0) h in
    let first : a ≡ 0 = eqb-true a 0 parts.0 in
    let second : b ≡ 0 = eqb-true b 0 parts.1 in
    let same : c ∷ more ≡ lists = cc (e) in
    record { byte = c; more = more; bytes_are = rw (first, second) refl; lists_are = sym same }
zeros_by false a b c more lists h e = absurd (cc)

zeros_of : (bytes lists : List ℕ) → after_two_zeros bytes ≡ Some lists → Zeros bytes lists
zeros_of [] lists e = absurd (cc)
zeros_of (a ∷ []) lists e = absurd (cc)
zeros_of (a ∷ b ∷ []) lists e = absurd (cc)
zeros_of (a ∷ b ∷ c ∷ more) lists e = zeros_by (nat_eq a 0 && nat_eq b 0) a b c more lists refl e

bytes_behind : (bytes lists : List ℕ) → after_two_zeros bytes ≡ Some lists → bytes ≡ 0 ∷ 0 ∷ lists
bytes_behind bytes lists e =
    let z = zeros_of bytes lists e in
    z.bytes_are ∙ ap (λ (behind : List ℕ). 0 ∷ 0 ∷ behind) (sym z.lists_are)

-- a value of servers does not begin so
suc_is_not_zero : (n : ℕ) → nat_eq (suc n) 0 ≡ false
suc_is_not_zero n = grind (arith, nat_tests)

pub first_counts : (n : ℕ) (bytes : List ℕ) → after_two_zeros (suc n ∷ bytes) ≡ None
first_counts n [] = refl
first_counts n (b ∷ []) = refl
first_counts n (b ∷ c ∷ bytes) = rw (suc_is_not_zero n) refl

pub second_counts : (n : ℕ) (bytes : List ℕ) → after_two_zeros (0 ∷ suc n ∷ bytes) ≡ None
second_counts n [] = refl
second_counts n (c ∷ bytes) = rw (suc_is_not_zero n) refl

servers_have_none : (sources destinations : List Id) → after_two_zeros (counted_ids sources ++ counted_ids destinations) ≡ None
servers_have_none (id ∷ sources) destinations = first_counts (length sources) _
servers_have_none [] (id ∷ destinations) = second_counts (length destinations) _
servers_have_none [] [] = refl

pub values_apart : (servers : Servers) (tags : ListedTags) → key_servers_value servers ≡ listed_tags_value tags → ⊥
values_apart servers tags e =
    let none = sym (servers_have_none servers.sources servers.destinations) ∙ ap after_two_zeros e in
    cc

-- ---- one spelling of each form

pub tags_spelled : (bytes lists : List ℕ) (tags : ListedTags) → ((i : ℕ) → get_or bytes i 0 < 256) → after_two_zeros bytes ≡ Some lists → listed_tags_at lists ≡ Ok tags → (listed_tags_value tags ≡ bytes) × (listed_tags_fault tags ≡ None)
tags_spelled bytes lists tags fits is read =
    let front = bytes_behind bytes lists is in
    let lists_fit : (i : ℕ) → get_or lists i 0 < 256 = λ i. subst (λ (all : List ℕ). (k : ℕ) → get_or all k 0 < 256) front fits (suc (suc i)) in
    let spelled = lists_spelled lists tags lists_fit read in
    (ap (λ (behind : List ℕ). 0 ∷ 0 ∷ behind) spelled.0 ∙ sym front, spelled.1)

pub location_spelled : (bytes : List ℕ) (location : Location) → ((i : ℕ) → get_or bytes i 0 < 256) → location_at bytes ≡ Ok location → (location_value location ≡ bytes) × HasValue location
location_spelled bytes location fits e = by (after_two_zeros bytes) refl e
  where
    by : (found : Option (List ℕ)) → after_two_zeros bytes ≡ found → location_by found bytes ≡ Ok location → (location_value location ≡ bytes) × HasValue location
    by (Some lists) is read =
        let b = bind_ok (listed_tags_at lists) (λ tags. Ok (locations.Tags tags)) location read in
        let same : locations.Tags b.0 ≡ location = cc (b.2) in
        subst (λ (found : Location). (location_value found ≡ bytes) × HasValue found) same (tags_spelled bytes lists b.0 fits is b.1)
    by None is read =
        let b = bind_ok (servers_at bytes) (λ servers. Ok (locations.Servers servers)) location read in
        let same : locations.Servers b.0 ≡ location = cc (b.2) in
        subst (λ (found : Location). (location_value found ≡ bytes) × HasValue found) same (servers_spelled bytes b.0 fits b.1)

pub location_again : (location : Location) → HasValue location → location_at (location_value location) ≡ Ok location
location_again (locations.Servers servers) h =
    rw (servers_have_none servers.sources servers.destinations, servers_again servers h.without_fault h.sources h.destinations) refl
location_again (locations.Tags tags) h = rw (lists_again tags h) refl

-- ---- the form of servers is as it is alone

trailing : (byte : ℕ) (more : List ℕ) (servers : Servers) → servers_at (0 ∷ 0 ∷ byte ∷ more) ≡ Ok servers → ⊥
unfolding ids_at
trailing byte more servers e = cc

pub servers_alone : (bytes : List ℕ) (servers : Servers) → (location_at bytes ≡ Ok (locations.Servers servers)) ↔ (servers_at bytes ≡ Ok servers)
servers_alone bytes servers = (to (after_two_zeros bytes), from (after_two_zeros bytes) refl)
  where
    to : (found : Option (List ℕ)) → location_by found bytes ≡ Ok (locations.Servers servers) → servers_at bytes ≡ Ok servers
    to (Some lists) read =
        let b = bind_ok (listed_tags_at lists) (λ tags. Ok (locations.Tags tags)) (locations.Servers servers) read in
        let same = b.2 in
        absurd cc
    to None read =
        let b = bind_ok (servers_at bytes) (λ found. Ok (locations.Servers found)) (locations.Servers servers) read in
        let same : b.0 ≡ servers = cc (b.2) in
        b.1 ∙ ap Ok same

    from : (found : Option (List ℕ)) → after_two_zeros bytes ≡ found → servers_at bytes ≡ Ok servers → location_by found bytes ≡ Ok (locations.Servers servers)
    from (Some lists) is read =
        let z = zeros_of bytes lists is in
        absurd (trailing z.byte z.more servers (ap servers_at (sym z.bytes_are) ∙ read))
    from None is read = rw read refl

-- ---- the faults

pub location_content : (bytes : List ℕ) → FaultsAreContent (location_at bytes)
location_content bytes = by (after_two_zeros bytes)
  where
    by : (found : Option (List ℕ)) → FaultsAreContent (location_by found bytes)
    by (Some lists) = bind_content (listed_tags_at lists) _ (lists_content lists) (λ tags. tt)
    by None = bind_content (servers_at bytes) _ (servers_content bytes) (λ servers. tt)

pub location_faults : (bytes : List ℕ) (fault : RowFault) → location_at bytes ≡ Err fault → IsTrue (is_of_rows fault)
location_faults bytes fault e = subst FaultsAreContent e (location_content bytes)
