-- The fault of a keyServers value is the first from the front: unless bytes are missing, it stays,
-- whatever bytes follow.
use Rattle.std.proofs.Common.{◌≡◌, ℕ, zero, suc, ◌*◌, ◌≤◌, Bool, true, false, cond, not, ◌&&◌, List, [], ◌∷◌, ◌++◌, length, take, drop, Option, Some, None, Result, Ok, Err, refl, sym, ap, subst, ◌∙◌, arith}
use Rattle.std.specs.Prelude.{nat_lt, ◌↔◌}
use Rattle.std.proofs.lemmas.Bool.{ltb-false}
use Rattle.std.proofs.lemmas.List.{take-append-le, drop-append-le, length-append}
use Rattle.system_keys.specs.declared.refusal.RowFault.{RowFault}
use Rattle.system_keys.specs.declared.refusal.RowFault.TheVariants as faults
use Rattle.system_keys.specs.declared.location.Location.{Location}
use Rattle.system_keys.specs.declared.location.Location.TheVariants as locations
use Rattle.system_keys.specs.declared.tag.Tag.{Tag}
use Rattle.system_keys.specs.AsSpecified.{unless_fault}
use Rattle.system_keys.specs.Rows.{tag_from, Id, Servers, ids_at, counted_ids_at, servers_at, at_end, is_id_above, with_first, ◌>>=◌}
use Rattle.system_keys.specs.ListedTags.{ListedTags, is_tag_above, are_tags_rising, read_whole_tags, first_tags_at, counted_tags_at, listed_tags_at}
use Rattle.system_keys.specs.Locations.{after_two_zeros, location_by, location_at}
use Rattle.system_keys.proofs.RowLaws.{next_ids, ids_at-next, ids_at-falling}
use Rattle.system_keys.proofs.ListedTagLaws.{successors_compare_alike, three_more, enough_whole}
use Rattle.system_keys.proofs.LocationLaws.{first_counts, second_counts}

-- a reader with more bytes behind: it reads the same and leaves them behind, and a fault stays unless
-- bytes were missing
abbrev Stays : {A : Type 0} → Result (A × List ℕ) RowFault → List ℕ → Result (A × List ℕ) RowFault → Type 0
Stays (Ok read) more now = now ≡ Ok (read.0, read.1 ++ more)
Stays (Err fault) more now = (fault ≡ faults.Truncated → ⊥) → now ≡ Err fault

-- the same of a reader to the end
abbrev FaultStays : {A : Type 0} → Result A RowFault → Result A RowFault → Type 0
FaultStays (Ok x) now = Unit {0}
FaultStays (Err fault) now = (fault ≡ faults.Truncated → ⊥) → now ≡ Err fault

bind_stays : {A B : Type 0} (read : Result (A × List ℕ) RowFault) (more : List ℕ) (now : Result (A × List ℕ) RowFault) (next : A × List ℕ → Result B RowFault) → Stays read more now → ((x : A × List ℕ) → FaultStays (next x) (next (x.0, x.1 ++ more))) → FaultStays (read >>= next) (now >>= next)
bind_stays (Ok x) more now next same h = rw same (h x)
bind_stays (Err fault) more now next same h = λ other. rw (same other) refl

-- what is made of what was read has no faults of its own
made_stays : {A B : Type 0} (read now : Result A RowFault) (make : A → B) → FaultStays read now → FaultStays (read >>= λ x. Ok (make x)) (now >>= λ x. Ok (make x))
made_stays (Ok x) now make same = tt
made_stays (Err fault) now make same = λ other. rw (same other) refl

end_stays : {A : Type 0} (x y : A) (rest more : List ℕ) → FaultStays (at_end x rest) (at_end y (rest ++ more))
end_stays x y [] more = tt
end_stays x y (byte ∷ rest) more = λ other. refl

-- ---- ids

first_stays : (id : Id) (read : Result (List Id × List ℕ) RowFault) (more : List ℕ) (now : Result (List Id × List ℕ) RowFault) → Stays read more now → Stays (read >>= λ r. Ok (with_first id r)) more (now >>= λ r. Ok (with_first id r))
first_stays id (Ok read) more now same = rw same refl
first_stays id (Err fault) more now same = λ other. rw (same other) refl

ids_stay : (n : ℕ) (before : Option Id) (bytes more : List ℕ) → Stays (ids_at n before bytes) more (ids_at n before (bytes ++ more))
unfolding ids_at
ids_stay zero before bytes more = refl
ids_stay (suc n) before bytes more = by_length (nat_lt (length bytes) 16) refl (ids_stay n (Some (take 16 bytes)) (drop 16 bytes) more)
  where
    by_order : (b : Bool) → 16 ≤ length bytes → is_id_above before (take 16 bytes) ≡ b → Stays (ids_at n (Some (take 16 bytes)) (drop 16 bytes)) more (ids_at n (Some (take 16 bytes)) (drop 16 bytes ++ more)) → Stays (cond b (next_ids n bytes) (Err faults.NotRising)) more (ids_at (suc n) before (bytes ++ more))
    by_order true enough above next_stays =
        let front : take 16 (bytes ++ more) ≡ take 16 bytes = take-append-le 16 bytes more enough in
        let behind : drop 16 (bytes ++ more) ≡ drop 16 bytes ++ more = drop-append-le 16 bytes more enough in
        let still : 16 ≤ length (bytes ++ more) = omega (arith, length-append bytes more, enough) in
        let next : ids_at (suc n) before (bytes ++ more) ≡ next_ids n (bytes ++ more) = ids_at-next n before (bytes ++ more) still (ap (is_id_above before) front ∙ above) in
        let moved : next_ids n (bytes ++ more) ≡ (ids_at n (Some (take 16 bytes)) (drop 16 bytes ++ more) >>= λ r. Ok (with_first (take 16 bytes) r)) = rw (front, behind) refl in
        subst (λ (now : Result (List Id × List ℕ) RowFault). Stays (next_ids n bytes) more now) (sym (next ∙ moved))
        (first_stays (take 16 bytes) (ids_at n (Some (take 16 bytes)) (drop 16 bytes)) more _ next_stays)
    by_order false enough falling next_stays = λ other.
        let front : take 16 (bytes ++ more) ≡ take 16 bytes = take-append-le 16 bytes more enough in
        let still : 16 ≤ length (bytes ++ more) = omega (arith, length-append bytes more, enough) in
        ids_at-falling n before (bytes ++ more) still (ap (is_id_above before) front ∙ falling)

    by_length : (b : Bool) → nat_lt (length bytes) 16 ≡ b → Stays (ids_at n (Some (take 16 bytes)) (drop 16 bytes)) more (ids_at n (Some (take 16 bytes)) (drop 16 bytes ++ more)) → Stays (cond b (Err faults.Truncated) (cond (is_id_above before (take 16 bytes)) (next_ids n bytes) (Err faults.NotRising))) more (ids_at (suc n) before (bytes ++ more))
    by_length true short next_stays = λ other. absurd (other refl)
    by_length false long next_stays = by_order (is_id_above before (take 16 bytes)) (ltb-false _ _ long) refl next_stays

counted_ids_stay : (bytes more : List ℕ) → Stays (counted_ids_at bytes) more (counted_ids_at (bytes ++ more))
counted_ids_stay [] more = λ other. absurd (other refl)
counted_ids_stay (count ∷ bytes) more = ids_stay count None bytes more

servers_stay : (bytes more : List ℕ) → FaultStays (servers_at bytes) (servers_at (bytes ++ more))
servers_stay bytes more =
    bind_stays (counted_ids_at bytes) more _ _ (counted_ids_stay bytes more) (λ sources.
    bind_stays (counted_ids_at sources.1) more _ _ (counted_ids_stay sources.1 more) (λ destinations. end_stays _ _ destinations.1 more))

-- ---- tags

falls_too : (above rising still : Bool) → (above && rising) ≡ false → (rising ≡ false → still ≡ false) → (above && still) ≡ false
falls_too true rising still falling h = h falling
falls_too false rising still falling h = refl

-- tags that stand whole and do not rise stand there still
falling_stays : (n : ℕ) (before : Option Tag) (bytes more : List ℕ) → are_tags_rising before (read_whole_tags n bytes) ≡ false → are_tags_rising before (read_whole_tags n (bytes ++ more)) ≡ false
falling_stays zero before bytes more falling = absurd (cc)
falling_stays (suc n) before [] more falling = absurd (cc)
falling_stays (suc n) before (a ∷ []) more falling = absurd (cc)
falling_stays (suc n) before (a ∷ b ∷ []) more falling = absurd (cc)
falling_stays (suc n) before (a ∷ b ∷ c ∷ bytes) more falling =
    falls_too (is_tag_above before (tag_from a b c)) _ _ falling (falling_stays n (Some (tag_from a b c)) bytes more)

-- if all tags stand there whole, what follows changes none of them
whole_stay : (n : ℕ) (bytes more : List ℕ) → nat_lt (length (read_whole_tags n bytes)) n ≡ false → (read_whole_tags n (bytes ++ more) ≡ read_whole_tags n bytes) × (drop (3 * n) (bytes ++ more) ≡ drop (3 * n) bytes ++ more)
whole_stay zero bytes more enough = (refl, refl)
whole_stay (suc n) [] more enough = absurd (enough_whole n enough)
whole_stay (suc n) (a ∷ []) more enough = absurd (enough_whole n enough)
whole_stay (suc n) (a ∷ b ∷ []) more enough = absurd (enough_whole n enough)
whole_stay (suc n) (a ∷ b ∷ c ∷ bytes) more enough =
    let next = whole_stay n bytes more (sym (successors_compare_alike (length (read_whole_tags n bytes)) n) ∙ enough) in
    (ap (λ (tags : List Tag). tag_from a b c ∷ tags) next.0, rw (three_more n) next.1)

first_tags_stay : (n : ℕ) (bytes more : List ℕ) → Stays (first_tags_at n bytes) more (first_tags_at n (bytes ++ more))
first_tags_stay n bytes more = by (are_tags_rising None (read_whole_tags n bytes)) (nat_lt (length (read_whole_tags n bytes)) n) refl refl
  where
    by : (rising short : Bool) → are_tags_rising None (read_whole_tags n bytes) ≡ rising → nat_lt (length (read_whole_tags n bytes)) n ≡ short → Stays (unless_fault (cond (not rising) (Some faults.NotRising) (cond short (Some faults.Truncated) None)) (read_whole_tags n bytes, drop (3 * n) bytes)) more (first_tags_at n (bytes ++ more))
    by true true rises short = λ other. absurd (other refl)
    by true false rises enough =
        let same = whole_stay n bytes more enough in
        rw (same.0, same.1, rises, enough) refl
    by false short falls is = λ other. rw (falling_stays n None bytes more falls) refl

counted_tags_stay : (bytes more : List ℕ) → Stays (counted_tags_at bytes) more (counted_tags_at (bytes ++ more))
counted_tags_stay [] more = λ other. absurd (other refl)
counted_tags_stay (count ∷ bytes) more = first_tags_stay count bytes more

lists_stay : (bytes more : List ℕ) → FaultStays (listed_tags_at bytes) (listed_tags_at (bytes ++ more))
lists_stay bytes more =
    bind_stays (counted_tags_at bytes) more _ _ (counted_tags_stay bytes more) (λ sources.
    bind_stays (counted_tags_at sources.1) more _ _ (counted_tags_stay sources.1 more) (λ destinations. end_stays _ _ destinations.1 more))

-- ---- both forms

location_stays : (bytes more : List ℕ) → FaultStays (location_at bytes) (location_at (bytes ++ more))
unfolding ids_at
location_stays [] more = λ other. absurd (other refl)
location_stays (zero ∷ []) more = λ other. absurd (other refl)
location_stays (zero ∷ zero ∷ []) more = tt
location_stays (zero ∷ zero ∷ byte ∷ bytes) more =
    made_stays (listed_tags_at (byte ∷ bytes)) _ (λ (tags : ListedTags). locations.Tags tags) (lists_stay (byte ∷ bytes) more)
location_stays (zero ∷ suc n ∷ bytes) more =
    rw (second_counts n bytes, second_counts n (bytes ++ more))
    (made_stays (servers_at (0 ∷ suc n ∷ bytes)) _ (λ (servers : Servers). locations.Servers servers) (servers_stay (0 ∷ suc n ∷ bytes) more))
location_stays (suc n ∷ bytes) more =
    rw (first_counts n bytes, first_counts n (bytes ++ more))
    (made_stays (servers_at (suc n ∷ bytes)) _ (λ (servers : Servers). locations.Servers servers) (servers_stay (suc n ∷ bytes) more))

pub first_fault : (bytes more : List ℕ) (fault : RowFault) → location_at bytes ≡ Err fault → (fault ≡ faults.Truncated → ⊥) → location_at (bytes ++ more) ≡ Err fault
first_fault bytes more fault is other = subst (λ (read : Result Location RowFault). FaultStays read (location_at (bytes ++ more))) is (location_stays bytes more) other

-- a value that does not begin with a list of tags has the faults of one that names servers
pub servers_fault_alone : (bytes : List ℕ) (fault : RowFault) → after_two_zeros bytes ≡ None → (location_at bytes ≡ Err fault) ↔ (servers_at bytes ≡ Err fault)
servers_fault_alone bytes fault none =
    let is : location_at bytes ≡ location_by None bytes = ap (λ (found : Option (List ℕ)). location_by found bytes) none in
    let both = by (servers_at bytes) in
    (λ e. both.0 (sym is ∙ e), λ e. is ∙ both.1 e)
  where
    by : (read : Result Servers RowFault) → ((read >>= λ servers. Ok (locations.Servers servers)) ≡ Err fault) ↔ (read ≡ Err fault)
    by (Ok servers) = (λ e. absurd (cc), λ e. absurd (cc))
    by (Err found) = (λ e. let same : found ≡ fault = cc (e) in ap Err same, λ e. let same : found ≡ fault = cc (e) in ap Err same)
