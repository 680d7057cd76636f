-- Reading ids from the front: each step, what was taken, and that what was written is read again.
use Rattle.std.proofs.Common.{◌≡◌, ℕ, zero, suc, ◌+◌, ◌-◌, ◌*◌, ◌/◌, ◌%◌, ◌<◌, ◌≤◌, Bool, true, false, cond, ◌&&◌, List, [], ◌∷◌, ◌++◌, length, take, drop, Option, Some, None, Result, Ok, Err, refl, sym, ap, subst, ◌∙◌, append_assoc, arith, get_or}
use Rattle.std.specs.Prelude.{nat_lt, IsOk, IsTrue}
use Rattle.std.specs.List.{flat_map}
use Rattle.std.specs.Option.{option_or}
use Rattle.std.proofs.lemmas.Bool.{ltb-false, eqb-true}
use Rattle.std.proofs.lemmas.Bool.Decides.{nat_tests}
use Rattle.std.proofs.lemmas.List.{take-append-drop, take_all, length-take, length-drop, length-append, take_at, drop_at, drop-drop, append-nil, get_or-drop}
use Rattle.system_keys.specs.declared.refusal.RowFault.{RowFault}
use Rattle.system_keys.specs.declared.refusal.RowFault.TheVariants as faults
use Rattle.system_keys.specs.declared.teams.TeamsFault.{TeamsFault}
use Rattle.system_keys.specs.declared.teams.TeamsFault.TheVariants.{NotRising, TooManyServers}
use Rattle.system_keys.specs.declared.tag.Tag.{Tag}
use Rattle.system_keys.specs.AsSpecified.{IsFaultOf}
use Rattle.system_keys.specs.Refusals.{row_fault}
use Rattle.system_keys.specs.Rows.{Id, Servers, HaveSpelling, tag_at, tag_value, ids_at, ids_in, counted_ids, counted_ids_at, id_list_fault, servers_fault, servers_at, at_end, is_of_rows, key_servers_value, ◌>>=◌, with_first, is_id_above, are_ids_rising, are_ids}

-- what is behind the ids
abbrev pub rest_of : Result (List Id × List ℕ) RowFault → Result (List ℕ) RowFault
rest_of (Ok read) = Ok read.1
rest_of (Err fault) = Err fault

abbrev pub next_ids : ℕ → List ℕ → Result (List Id × List ℕ) RowFault
next_ids n bytes = ids_at n (Some (take 16 bytes)) (drop 16 bytes) >>= λ read. Ok (with_first (take 16 bytes) read)

rest_of-next_ids : (id : Id) (read : Result (List Id × List ℕ) RowFault) → rest_of (read >>= λ r. Ok (with_first id r)) ≡ rest_of read
rest_of-next_ids id (Ok read) = refl
rest_of-next_ids id (Err fault) = refl

-- ---- the steps of a reader

pub ids_at-short : (n : ℕ) (before : Option Id) (bytes : List ℕ) → length bytes < 16 → ids_at (suc n) before bytes ≡ Err faults.Truncated
unfolding ids_at
ids_at-short n before bytes short =
    let t : nat_lt (length bytes) 16 ≡ true = grind (arith, nat_tests) in
    rw t refl

pub ids_at-falling : (n : ℕ) (before : Option Id) (bytes : List ℕ) → 16 ≤ length bytes → is_id_above before (take 16 bytes) ≡ false → ids_at (suc n) before bytes ≡ Err faults.NotRising
unfolding ids_at
ids_at-falling n before bytes enough falling =
    let t : nat_lt (length bytes) 16 ≡ false = grind (arith, nat_tests) in
    rw (t, falling) refl

pub ids_at-next : (n : ℕ) (before : Option Id) (bytes : List ℕ) → 16 ≤ length bytes → is_id_above before (take 16 bytes) ≡ true → ids_at (suc n) before bytes ≡ next_ids n bytes
unfolding ids_at
ids_at-next n before bytes enough above =
    let t : nat_lt (length bytes) 16 ≡ false = grind (arith, nat_tests) in
    rw (t, above) refl

-- a step of the reader that keeps only what is behind
pub rest_of-next : (n : ℕ) (before : Option Id) (bytes : List ℕ) → 16 ≤ length bytes → is_id_above before (take 16 bytes) ≡ true → rest_of (ids_at (suc n) before bytes) ≡ rest_of (ids_at n (Some (take 16 bytes)) (drop 16 bytes))
rest_of-next n before bytes enough above = ap rest_of (ids_at-next n before bytes enough above) ∙ rest_of-next_ids (take 16 bytes) _

-- ---- what was taken

pub bind_ok : {A B : Type 0} (r : Result A RowFault) (f : A → Result B RowFault) (y : B) → (r >>= f) ≡ Ok y → (x : A) × (r ≡ Ok x) × (f x ≡ Ok y)
bind_ok (Ok x) f y e = (x, refl, e)
bind_ok (Err fault) f y e = absurd cc

-- the first id of those that were read
record First (n : ℕ) (before : Option Id) (bytes : List ℕ) (ids : List Id) (rest : List ℕ) : Type 0 where
  enough : 16 ≤ length bytes
  above : is_id_above before (take 16 bytes) ≡ true
  more : List Id
  ids_is : ids ≡ take 16 bytes ∷ more
  next : ids_at n (Some (take 16 bytes)) (drop 16 bytes) ≡ Ok (more, rest)

by_order : (n : ℕ) (before : Option Id) (bytes : List ℕ) (ids : List Id) (rest : List ℕ) (b : Bool) → 16 ≤ length bytes → is_id_above before (take 16 bytes) ≡ b → cond b (next_ids n bytes) (Err faults.NotRising) ≡ Ok (ids, rest) → First n before bytes ids rest
by_order n before bytes ids rest true enough above e =
    let b = bind_ok (ids_at n (Some (take 16 bytes)) (drop 16 bytes)) (λ read. Ok (with_first (take 16 bytes) read)) (ids, rest) e in
    let first_is : with_first (take 16 bytes) b.0 ≡ (ids, rest) = cc (b.2) in
    record {
      enough = enough;
      above = above;
      more = b.0.0;
      ids_is = sym (ap (λ (p : List Id × List ℕ). p.0) first_is);
      next = b.1 ∙ ap (λ (r : List ℕ). Ok (b.0.0, r)) (ap (λ (p : List Id × List ℕ). p.1) first_is);
    }
by_order n before bytes ids rest false enough above e = absurd cc

by_length : (n : ℕ) (before : Option Id) (bytes : List ℕ) (ids : List Id) (rest : List ℕ) (b : Bool) → nat_lt (length bytes) 16 ≡ b → cond b (Err faults.Truncated) (cond (is_id_above before (take 16 bytes)) (next_ids n bytes) (Err faults.NotRising)) ≡ Ok (ids, rest) → First n before bytes ids rest
by_length n before bytes ids rest true short e = absurd cc
by_length n before bytes ids rest false long e = by_order n before bytes ids rest (is_id_above before (take 16 bytes)) (ltb-false _ _ long) refl e

first_id : (n : ℕ) (before : Option Id) (bytes : List ℕ) (ids : List Id) (rest : List ℕ) → ids_at (suc n) before bytes ≡ Ok (ids, rest) → First n before bytes ids rest
unfolding ids_at
first_id n before bytes ids rest e = by_length n before bytes ids rest (nat_lt (length bytes) 16) refl e

-- what was read from the front: these bytes, this many ids, which rise
pub record Taken (n : ℕ) (before : Option Id) (bytes : List ℕ) (ids : List Id) (rest : List ℕ) : Type 0 where
  pub parts : bytes ≡ flat_map (λ (id : Id). id) ids ++ rest
  pub count : length ids ≡ n
  pub rising : are_ids_rising before ids ≡ true
  pub wide : are_ids ids ≡ true
  pub are_first : ids ≡ ids_in n bytes
  pub enough : 16 * n ≤ length bytes
  pub behind : rest ≡ drop (16 * n) bytes

taken_more : (n : ℕ) (before : Option Id) (bytes : List ℕ) (ids : List Id) (rest : List ℕ) (f : First n before bytes ids rest) → Taken n (Some (take 16 bytes)) (drop 16 bytes) f.more rest → Taken (suc n) before bytes ids rest
taken_more n before bytes ids rest f t =
    let wide : length (take 16 bytes) ≡ 16 = omega (arith, length-take 16 bytes, f.enough) in
    rw (f.ids_is) (record {
      parts = sym (take-append-drop 16 bytes) ∙ ap (λ (xs : List ℕ). take 16 bytes ++ xs) t.parts ∙ sym (append_assoc (take 16 bytes) (flat_map (λ (id : Id). id) f.more) rest);
      count = ap suc t.count;
      rising = rw (f.above) t.rising;
      wide = rw wide t.wide;
      are_first = ap (λ (more : List Id). take 16 bytes ∷ more) t.are_first;
      enough = omega (arith, t.enough, length-drop 16 bytes, f.enough);
      behind = t.behind ∙ drop-drop (16 * n) 16 bytes ∙ ap (λ (m : ℕ). drop m bytes) (omega arith);
    })

abbrev with_no_ids : List ℕ → List Id × List ℕ
with_no_ids bytes = ([], bytes)

pub ids_taken : (n : ℕ) (before : Option Id) (bytes : List ℕ) (ids : List Id) (rest : List ℕ) → ids_at n before bytes ≡ Ok (ids, rest) → Taken n before bytes ids rest
unfolding ids_at
ids_taken zero before bytes ids rest e =
    let none : with_no_ids bytes ≡ (ids, rest) = cc (e) in
    let no_ids : ids ≡ [] = sym (ap (λ (p : List Id × List ℕ). p.0) none) in
    let all_behind : rest ≡ bytes = sym (ap (λ (p : List Id × List ℕ). p.1) none) in
    rw (no_ids, all_behind) (record { parts = refl; count = refl; rising = refl; wide = refl; are_first = refl; enough = omega arith; behind = refl })
ids_taken (suc n) before bytes ids rest e =
    let f = first_id n before bytes ids rest e in
    taken_more n before bytes ids rest f (ids_taken n (Some (take 16 bytes)) (drop 16 bytes) f.more rest f.next)

-- ---- the loop of the reader that keeps only what is behind

rest_was : (n : ℕ) (before : Option Id) (bytes : List ℕ) (read : Result (List Id × List ℕ) RowFault) (rest : List ℕ) → ids_at n before bytes ≡ read → rest_of read ≡ Ok rest → read ≡ Ok (ids_in n bytes, rest)
rest_was n before bytes (Ok read) rest e r =
    let rest_is : read.1 ≡ rest = cc (r) in
    let t = ids_taken n before bytes read.0 read.1 e in
    ap (λ (ids : List Id). Ok (ids, read.1)) t.are_first ∙ ap (λ (behind : List ℕ). Ok (ids_in n bytes, behind)) rest_is
rest_was n before bytes (Err fault) rest e r = absurd cc

-- what is behind was found: the ids are those in front of it
pub ids_at-rest_of : (n : ℕ) (before : Option Id) (bytes rest : List ℕ) → rest_of (ids_at n before bytes) ≡ Ok rest → ids_at n before bytes ≡ Ok (ids_in n bytes, rest)
ids_at-rest_of n before bytes rest r = rest_was n before bytes (ids_at n before bytes) rest refl r

fault_was : (read : Result (List Id × List ℕ) RowFault) (fault : RowFault) → rest_of read ≡ Err fault → read ≡ Err fault
fault_was (Ok read) fault r = absurd cc
fault_was (Err f) fault r = cc (r)

pub ids_at-fault : (n : ℕ) (before : Option Id) (bytes : List ℕ) (fault : RowFault) → rest_of (ids_at n before bytes) ≡ Err fault → ids_at n before bytes ≡ Err fault
ids_at-fault n before bytes fault r = fault_was (ids_at n before bytes) fault r

-- the loop goes on behind an id that is above the one before it
pub loop_next : (count i : ℕ) (before : Option Id) (rest : List ℕ) (whole : Result (List ℕ) RowFault) → i < count → 16 ≤ length rest → is_id_above before (take 16 rest) ≡ true → rest_of (ids_at (count - i) before rest) ≡ whole → rest_of (ids_at (count - (i + 1)) (Some (take 16 rest)) (drop 16 rest)) ≡ whole
loop_next count i before rest whole more enough above told =
    let k : count - i ≡ suc (count - (i + 1)) = omega arith in
    sym (rest_of-next (count - (i + 1)) before rest enough above) ∙ ap (λ (n : ℕ). rest_of (ids_at n before rest)) (sym k) ∙ told

-- the loop stops at a fault
pub loop_short : (count i : ℕ) (before : Option Id) (rest bytes : List ℕ) → i < count → length rest < 16 → rest_of (ids_at (count - i) before rest) ≡ rest_of (ids_at count None bytes) → ids_at count None bytes ≡ Err faults.Truncated
loop_short count i before rest bytes more short told =
    let k : count - i ≡ suc (count - (i + 1)) = omega arith in
    ids_at-fault count None bytes faults.Truncated (sym told ∙ ap (λ (n : ℕ). rest_of (ids_at n before rest)) k ∙ ap rest_of (ids_at-short (count - (i + 1)) before rest short))

pub loop_falling : (count i : ℕ) (before : Option Id) (rest bytes : List ℕ) → i < count → 16 ≤ length rest → is_id_above before (take 16 rest) ≡ false → rest_of (ids_at (count - i) before rest) ≡ rest_of (ids_at count None bytes) → ids_at count None bytes ≡ Err faults.NotRising
loop_falling count i before rest bytes more enough falling told =
    let k : count - i ≡ suc (count - (i + 1)) = omega arith in
    ids_at-fault count None bytes faults.NotRising (sym told ∙ ap (λ (n : ℕ). rest_of (ids_at n before rest)) k ∙ ap rest_of (ids_at-falling (count - (i + 1)) before rest enough falling))

-- the loop ends
ids_at-none : (before : Option Id) (rest : List ℕ) → rest_of (ids_at 0 before rest) ≡ Ok rest
unfolding ids_at
ids_at-none before rest = refl

pub loop_done : (count i : ℕ) (before : Option Id) (rest bytes : List ℕ) → count ≤ i → rest_of (ids_at (count - i) before rest) ≡ rest_of (ids_at count None bytes) → ids_at count None bytes ≡ Ok (ids_in count bytes, rest)
loop_done count i before rest bytes over told =
    let k : count - i ≡ 0 = omega arith in
    ids_at-rest_of count None bytes rest (sym told ∙ ap (λ (n : ℕ). rest_of (ids_at n before rest)) k ∙ ids_at-none before rest)

-- ---- what was written is read again

again_first : (id : Id) (ids : List Id) (before : Option Id) (rest : List ℕ) → length id ≡ 16 → is_id_above before id ≡ true → ids_at (length ids) (Some id) (flat_map (λ (i : Id). i) ids ++ rest) ≡ Ok (ids, rest) → ids_at (suc (length ids)) before ((id ++ flat_map (λ (i : Id). i) ids) ++ rest) ≡ Ok (id ∷ ids, rest)
again_first id ids before rest wide above more =
    let bytes : List ℕ = (id ++ flat_map (λ (i : Id). i) ids) ++ rest in
    let front : take 16 bytes ≡ id = ap (take 16) (append_assoc id _ rest) ∙ take_at id _ 16 wide in
    let behind : drop 16 bytes ≡ flat_map (λ (i : Id). i) ids ++ rest = ap (drop 16) (append_assoc id _ rest) ∙ drop_at id _ 16 wide in
    let enough : 16 ≤ length bytes = omega (arith, length-append (id ++ flat_map (λ (i : Id). i) ids) rest, length-append id (flat_map (λ (i : Id). i) ids), wide) in
    let above_it : is_id_above before (take 16 bytes) ≡ true = rw front above in
    ids_at-next (length ids) before bytes enough above_it ∙ rw (front, behind, more) refl

and_left : (a b : Bool) → (a && b) ≡ true → a ≡ true
and_left true b e = refl
and_left false b e = absurd cc

and_right : (a b : Bool) → (a && b) ≡ true → b ≡ true
and_right true b e = e
and_right false b e = absurd cc

pub ids_again : (ids : List Id) (before : Option Id) (rest : List ℕ) → are_ids_rising before ids ≡ true → are_ids ids ≡ true → ids_at (length ids) before (flat_map (λ (id : Id). id) ids ++ rest) ≡ Ok (ids, rest)
unfolding ids_at
ids_again [] before rest rising wide = refl
ids_again (id ∷ ids) before rest rising wide =
    again_first id ids before rest
    (eqb-true _ _ (and_left _ _ wide))
    (and_left _ _ rising)
    (ids_again ids (Some id) rest (and_right _ _ rising) (and_right _ _ wide))

-- ---- the loop that keeps the ids

take-take_all : (n : ℕ) (bytes : List ℕ) → n ≤ length bytes → length (take n bytes) ≡ n
take-take_all n bytes h = omega (arith, length-take n bytes)

-- one more id was kept
pub ids_in_next : (count i : ℕ) (kept all : List Id) (rest : List ℕ) → i < count → kept ++ ids_in (count - i) rest ≡ all → (kept ++ take 16 rest ∷ []) ++ ids_in (count - (i + 1)) (drop 16 rest) ≡ all
ids_in_next count i kept all rest more told =
    let k : count - i ≡ suc (count - (i + 1)) = omega arith in
    append_assoc kept (take 16 rest ∷ []) _ ∙ ap (λ (n : ℕ). kept ++ ids_in n rest) (sym k) ∙ told

pub enough_next : (count i : ℕ) (rest : List ℕ) → i < count → 16 * (count - i) ≤ length rest → 16 * (count - (i + 1)) ≤ length (drop 16 rest)
enough_next count i rest more enough = omega (arith, length-drop 16 rest, enough)

-- ---- a count byte and its ids

abbrev pub behind_first : List ℕ → List ℕ
behind_first bytes = take (length bytes - 1) (drop 1 bytes)

behind_first-cons : (byte : ℕ) (bytes : List ℕ) → behind_first (byte ∷ bytes) ≡ bytes
behind_first-cons byte bytes = take_all _ bytes (omega arith)

ok_value : {A : Type 0} (r : Result A RowFault) → IsOk r → (x : A) × (r ≡ Ok x)
ok_value (Ok x) h = (x, refl)
ok_value (Err fault) h = absurd (cc)

pub listed_enough : (bytes : List ℕ) → IsOk (counted_ids_at bytes) → 16 * get_or bytes 0 0 ≤ length (behind_first bytes)
listed_enough [] h = absurd (cc)
listed_enough (count ∷ bytes) h =
    let v = ok_value (ids_at count None bytes) h in
    let t = ids_taken count None bytes v.0.0 v.0.1 v.1 in
    rw (behind_first-cons count bytes) t.enough

pub listed : (bytes : List ℕ) → IsOk (counted_ids_at bytes) → counted_ids_at bytes ≡ Ok (ids_in (get_or bytes 0 0) (behind_first bytes), drop (16 * get_or bytes 0 0) (behind_first bytes))
listed [] h = absurd (cc)
listed (count ∷ bytes) h =
    let v = ok_value (ids_at count None bytes) h in
    let t = ids_taken count None bytes v.0.0 v.0.1 v.1 in
    rw (behind_first-cons count bytes, ← t.behind, ← t.are_first) v.1

-- what a count byte and its ids are: a team, the bytes of its spelling, and the bytes behind
record Counted (bytes : List ℕ) (ids : List Id) (rest : List ℕ) : Type 0 where
  parts : bytes ≡ counted_ids ids ++ rest
  team : id_list_fault ids ≡ None
  wide : are_ids ids ≡ true
  fits : (i : ℕ) → get_or rest i 0 < 256

team_from : (ids : List Id) → length ids < 256 → are_ids_rising None ids ≡ true → id_list_fault ids ≡ None
team_from ids few rising =
    let t : nat_lt 255 (length ids) ≡ false = grind (arith, nat_tests) in
    rw (t, rising) refl

counted : (bytes : List ℕ) (ids : List Id) (rest : List ℕ) → ((i : ℕ) → get_or bytes i 0 < 256) → counted_ids_at bytes ≡ Ok (ids, rest) → Counted bytes ids rest
counted [] ids rest fits e = absurd (cc)
counted (count ∷ bytes) ids rest fits e =
    let t = ids_taken count None bytes ids rest e in
    record {
      parts = rw (t.count) (ap (λ (b : List ℕ). count ∷ b) t.parts);
      team = team_from ids (omega (arith, t.count, fits 0)) t.rising;
      wide = t.wide;
      fits = λ i. rw (t.behind, get_or-drop) (fits (suc (16 * count + i)));
    }

-- the two lists of a value, one behind the other
pub record Read (bytes : List ℕ) (sources destinations : List Id) : Type 0 where
  pub spelled : counted_ids sources ++ counted_ids destinations ≡ bytes
  pub team : option_or (id_list_fault sources) (id_list_fault destinations) ≡ None

end_is : (servers : Servers) (rest : List ℕ) → IsOk (at_end servers rest) → rest ≡ []
end_is servers [] h = refl
end_is servers (byte ∷ bytes) h = absurd (cc)

pub read_both : (bytes : List ℕ) (sources : List Id) (rest : List ℕ) (destinations : List Id) (behind : List ℕ) → ((i : ℕ) → get_or bytes i 0 < 256) → counted_ids_at bytes ≡ Ok (sources, rest) → counted_ids_at rest ≡ Ok (destinations, behind) → IsOk (servers_at bytes) → Read bytes sources destinations
read_both bytes sources rest destinations behind fits first second ok =
    let a = counted bytes sources rest fits first in
    let b = counted rest destinations behind a.fits second in
    let at_the_end : IsOk (at_end (record { sources = sources; destinations = destinations }) behind) = rw (first, second) at ok in
    let none : behind ≡ [] = end_is _ behind at_the_end in
    let last : counted_ids destinations ≡ rest = sym (b.parts ∙ ap (λ (r : List ℕ). counted_ids destinations ++ r) none ∙ append-nil (counted_ids destinations)) in
    record {
      spelled = ap (λ (r : List ℕ). counted_ids sources ++ r) last ∙ sym a.parts;
      team = rw (a.team, b.team) refl;
    }

-- what was written is read again
rising_by : (a b : Bool) → cond a (Some TooManyServers) (cond b None (Some NotRising)) ≡ None → b ≡ true
rising_by true b e = absurd (cc)
rising_by false true e = refl
rising_by false false e = absurd (cc)

rising_from : (ids : List Id) → id_list_fault ids ≡ None → are_ids_rising None ids ≡ true
rising_from ids e = rising_by (nat_lt 255 (length ids)) (are_ids_rising None ids) e

no_fault : (a b : Option TeamsFault) → option_or a b ≡ None → (a ≡ None) × (b ≡ None)
no_fault (Some fault) b e = absurd (cc)
no_fault None b e = (refl, e)

counted_again : (ids : List Id) (rest : List ℕ) → id_list_fault ids ≡ None → are_ids ids ≡ true → counted_ids_at (counted_ids ids ++ rest) ≡ Ok (ids, rest)
counted_again ids rest team wide = ids_again ids None rest (rising_from ids team) wide

pub servers_again : (servers : Servers) → servers_fault servers ≡ None → are_ids servers.sources ≡ true → are_ids servers.destinations ≡ true → servers_at (key_servers_value servers) ≡ Ok servers
servers_again servers team first second =
    let parts = no_fault (id_list_fault servers.sources) (id_list_fault servers.destinations) team in
    let last : counted_ids_at (counted_ids servers.destinations) ≡ Ok (servers.destinations, []) = ap counted_ids_at (sym (append-nil (counted_ids servers.destinations))) ∙ counted_again servers.destinations [] parts.1 second in
    rw (counted_again servers.sources (counted_ids servers.destinations) parts.0 first, last) refl

-- ---- the faults of a row's value

abbrev pub FaultsAreContent : {A : Type 0} → Result A RowFault → Type 0
FaultsAreContent (Ok x) = Unit {0}
FaultsAreContent (Err fault) = IsTrue (is_of_rows fault)

pub bind_content : {A B : Type 0} (r : Result A RowFault) (f : A → Result B RowFault) → FaultsAreContent r → ((x : A) → FaultsAreContent (f x)) → FaultsAreContent (r >>= f)
bind_content (Ok x) f r h = h x
bind_content (Err fault) f r h = r

cond_content : {A : Type 0} (b : Bool) (x y : Result A RowFault) → FaultsAreContent x → FaultsAreContent y → FaultsAreContent (cond b x y)
cond_content true x y hx hy = hx
cond_content false x y hx hy = hy

ids_content : (n : ℕ) (before : Option Id) (bytes : List ℕ) → FaultsAreContent (ids_at n before bytes)
unfolding ids_at
ids_content zero before bytes = tt
ids_content (suc n) before bytes =
    cond_content (nat_lt (length bytes) 16) _ _ refl
    (cond_content (is_id_above before (take 16 bytes)) (next_ids n bytes) (Err faults.NotRising)
    (bind_content (ids_at n (Some (take 16 bytes)) (drop 16 bytes)) _ (ids_content n (Some (take 16 bytes)) (drop 16 bytes)) (λ read. tt))
    refl)

counted_content : (bytes : List ℕ) → FaultsAreContent (counted_ids_at bytes)
counted_content [] = refl
counted_content (count ∷ bytes) = ids_content count None bytes

pub end_content : {A : Type 0} (x : A) (rest : List ℕ) → FaultsAreContent (at_end x rest)
end_content x [] = tt
end_content x (byte ∷ bytes) = refl

pub servers_content : (bytes : List ℕ) → FaultsAreContent (servers_at bytes)
servers_content bytes =
    bind_content (counted_ids_at bytes) _ (counted_content bytes) (λ sources.
    bind_content (counted_ids_at sources.1) _ (counted_content sources.1) (λ destinations. end_content _ destinations.1))

-- a fault that reading meets is one of rows
pub servers_faults : (bytes : List ℕ) (fault : RowFault) → servers_at bytes ≡ Err fault → IsTrue (is_of_rows fault)
servers_faults bytes fault e = subst FaultsAreContent e (servers_content bytes)

-- a decoder returns it as it is
as_specified : (read : Result Servers RowFault) (fault : RowFault) → IsTrue (is_of_rows fault) → read ≡ Err fault → IsFaultOf (row_fault fault) read
as_specified read faults.OutOfMemory content e = absurd cc
as_specified read faults.Truncated content e = e
as_specified read faults.NotRising content e = e
as_specified read faults.Trailing content e = e
as_specified read faults.BadText content e = e

pub fault_is_as_specified : (bytes : List ℕ) (fault : RowFault) → servers_at bytes ≡ Err fault → IsFaultOf (row_fault fault) (servers_at bytes)
fault_is_as_specified bytes fault e = as_specified (servers_at bytes) fault (servers_faults bytes fault e) e

-- ---- what decodes is what encodes

pub end_value : {A : Type 0} (x found : A) (rest : List ℕ) → at_end x rest ≡ Ok found → (found ≡ x) × (rest ≡ [])
end_value x found [] e =
    let same : x ≡ found = cc (e) in
    (sym same, refl)
end_value x found (byte ∷ bytes) e = absurd (cc)

both_spelled : (bytes : List ℕ) (sources : List Id) (rest : List ℕ) (destinations : List Id) (behind : List ℕ) → ((i : ℕ) → get_or bytes i 0 < 256) → counted_ids_at bytes ≡ Ok (sources, rest) → counted_ids_at rest ≡ Ok (destinations, behind) → behind ≡ [] → (key_servers_value (record { sources = sources; destinations = destinations }) ≡ bytes) × HaveSpelling (record { sources = sources; destinations = destinations })
both_spelled bytes sources rest destinations behind fits first second none =
    let a = counted bytes sources rest fits first in
    let b = counted rest destinations behind a.fits second in
    let last : counted_ids destinations ≡ rest = sym (b.parts ∙ ap (λ (r : List ℕ). counted_ids destinations ++ r) none ∙ append-nil (counted_ids destinations)) in
    (ap (λ (r : List ℕ). counted_ids sources ++ r) last ∙ sym a.parts, record { without_fault = rw (a.team, b.team) refl; sources = a.wide; destinations = b.wide })

pub servers_spelled : (bytes : List ℕ) (servers : Servers) → ((i : ℕ) → get_or bytes i 0 < 256) → servers_at bytes ≡ Ok servers → (key_servers_value servers ≡ bytes) × HaveSpelling servers
servers_spelled bytes servers fits e =
    let s = bind_ok (counted_ids_at bytes) (λ sources. counted_ids_at sources.1 >>= λ destinations. at_end (record { sources = sources.0; destinations = destinations.0 }) destinations.1) servers e in
    let d = bind_ok (counted_ids_at s.0.1) (λ destinations. at_end (record { sources = s.0.0; destinations = destinations.0 }) destinations.1) servers s.2 in
    let v = end_value (record { sources = s.0.0; destinations = d.0.0 }) servers d.0.1 d.2 in
    rw (v.0) (both_spelled bytes s.0.0 s.0.1 d.0.0 d.0.1 fits s.1 d.1 v.1)

pub tag_spelled : (bytes : List ℕ) (tag : Tag) → ((i : ℕ) → get_or bytes i 0 < 256) → tag_at bytes ≡ Ok tag → tag_value tag ≡ bytes
tag_spelled [] tag fits e = absurd (cc)
tag_spelled (a ∷ []) tag fits e = absurd (cc)
tag_spelled (a ∷ b ∷ []) tag fits e = absurd (cc)
tag_spelled (a ∷ b ∷ c ∷ d ∷ rest) tag fits e = absurd (cc)
tag_spelled (locality ∷ high ∷ low ∷ []) tag fits e =
    let named : Tag = record { locality = locality; id = 256 * high + low } in
    let same : named ≡ tag = cc (e) in
    let low_fits : low < 256 = fits 2 in
    let high_part : (256 * high + low) / 256 ≡ high = omega arith in
    let low_part : (256 * high + low) % 256 ≡ low = omega arith in
    rw (← same, high_part, low_part) refl
