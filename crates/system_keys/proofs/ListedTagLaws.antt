-- Reading tags from the front: each step, what was taken, and that what was written is read again.
use Rattle.std.proofs.Common.{◌≡◌, ℕ, zero, suc, ◌+◌, ◌-◌, ◌*◌, ◌/◌, ◌%◌, ◌<◌, ◌≤◌, Bool, true, false, cond, not, List, [], ◌∷◌, ◌++◌, length, take, drop, Option, Some, None, Result, Ok, refl, sym, ap, ap₂, ◌∙◌, append_assoc, arith, get_or}
use Rattle.std.specs.Prelude.{nat_lt}
use Rattle.std.specs.List.{flat_map}
use Rattle.std.specs.Option.{option_or}
use Rattle.std.proofs.lemmas.Bool.Decides.{nat_tests}
use Rattle.std.proofs.lemmas.List.{take_all, append-nil, get_or-drop}
use Rattle.system_keys.specs.declared.refusal.RowFault.{RowFault}
use Rattle.system_keys.specs.declared.refusal.RowFault.TheVariants as faults
use Rattle.system_keys.specs.declared.tag.Tag.{Tag}
use Rattle.system_keys.specs.declared.tag_teams.TagTeamsFault.{TagTeamsFault}
use Rattle.system_keys.specs.declared.tag_teams.TagTeamsFault.TheVariants.{NotRising, TooManyTags}
use Rattle.system_keys.specs.AsSpecified.{unless_fault}
use Rattle.system_keys.specs.Rows.{tag_from, tag_value, at_end, ◌>>=◌}
use Rattle.system_keys.specs.ListedTags.{ListedTags, counted_tags, is_tag_above, are_tags_rising, tag_list_fault, listed_tags_fault, read_whole_tags, first_tags_at, counted_tags_at, listed_tags_at}
use Rattle.system_keys.proofs.RowLaws.{bind_ok, end_value, end_content, FaultsAreContent, bind_content}

-- ---- the steps of a reader

-- why n tags behind another cannot be read
abbrev pub fault_behind : Option Tag → ℕ → List ℕ → Option RowFault
fault_behind before n bytes = cond (not (are_tags_rising before (read_whole_tags n bytes))) (Some faults.NotRising) (cond (nat_lt (length (read_whole_tags n bytes)) n) (Some faults.Truncated) None)

-- what stands behind n tags that stand behind another
abbrev pub rest_behind : Option Tag → ℕ → List ℕ → Result (List ℕ) RowFault
rest_behind before n bytes = unless_fault (fault_behind before n bytes) (drop (3 * n) bytes)

successors_compare_by : (t : Bool) (a n : ℕ) → nat_lt a n ≡ t → nat_lt (suc a) (suc n) ≡ t
successors_compare_by true a n h = grind (arith, nat_tests)
successors_compare_by false a n h = grind (arith, nat_tests)

pub successors_compare_alike : (a n : ℕ) → nat_lt (suc a) (suc n) ≡ nat_lt a n
successors_compare_alike a n = successors_compare_by (nat_lt a n) a n refl

zero_is_less : (n : ℕ) → nat_lt 0 (suc n) ≡ true
zero_is_less n = grind (arith, nat_tests)

not_less_than_itself : (n : ℕ) → nat_lt n n ≡ false
not_less_than_itself n = grind (arith, nat_tests)

pub three_more : (n : ℕ) → 3 * suc n ≡ suc (suc (suc (3 * n)))
three_more n = omega arith

rest_next : (n : ℕ) (before : Option Tag) (a b c : ℕ) (bytes : List ℕ) → is_tag_above before (tag_from a b c) ≡ true → rest_behind before (suc n) (a ∷ b ∷ c ∷ bytes) ≡ rest_behind (Some (tag_from a b c)) n bytes
rest_next n before a b c bytes above = rw (above, successors_compare_alike (length (read_whole_tags n bytes)) n, three_more n) refl

-- ---- the loop of the reader that keeps only what is behind

-- the tag at the front, and the bytes behind it
abbrev pub front_tag : List ℕ → Tag
front_tag bytes = tag_from (get_or bytes 0 0) (get_or bytes 1 0) (get_or bytes 2 0)

abbrev pub behind_front : List ℕ → List ℕ
behind_front bytes = take (length bytes - 3) (drop 3 bytes)

behind_front-is : (a b c : ℕ) (bytes : List ℕ) → behind_front (a ∷ b ∷ c ∷ bytes) ≡ bytes
behind_front-is a b c bytes = take_all _ bytes (omega arith)

pub loop_next : (count i : ℕ) (before : Option Tag) (rest : List ℕ) (whole : Result (List ℕ) RowFault) → i < count → 3 ≤ length rest → is_tag_above before (front_tag rest) ≡ true → rest_behind before (count - i) rest ≡ whole → rest_behind (Some (front_tag rest)) (count - (i + 1)) (behind_front rest) ≡ whole
loop_next count i before [] whole more enough above told = absurd (omega arith)
loop_next count i before (a ∷ []) whole more enough above told = absurd (omega arith)
loop_next count i before (a ∷ b ∷ []) whole more enough above told = absurd (omega arith)
loop_next count i before (a ∷ b ∷ c ∷ bytes) whole more enough above told =
    let k : count - i ≡ suc (count - (i + 1)) = omega arith in
    ap (λ (behind : List ℕ). rest_behind (Some (tag_from a b c)) (count - (i + 1)) behind) (behind_front-is a b c bytes)
    ∙ sym (rest_next (count - (i + 1)) before a b c bytes above)
    ∙ ap (λ (n : ℕ). rest_behind before n (a ∷ b ∷ c ∷ bytes)) (sym k) ∙ told

-- ---- the loop that keeps the tags

-- one more tag was kept
pub whole_next : (count i : ℕ) (kept all : List Tag) (rest : List ℕ) → i < count → 3 ≤ length rest → kept ++ read_whole_tags (count - i) rest ≡ all → (kept ++ front_tag rest ∷ []) ++ read_whole_tags (count - (i + 1)) (behind_front rest) ≡ all
whole_next count i kept all [] more enough told = absurd (omega arith)
whole_next count i kept all (a ∷ []) more enough told = absurd (omega arith)
whole_next count i kept all (a ∷ b ∷ []) more enough told = absurd (omega arith)
whole_next count i kept all (a ∷ b ∷ c ∷ bytes) more enough told =
    let k : count - i ≡ suc (count - (i + 1)) = omega arith in
    ap (λ (behind : List ℕ). (kept ++ tag_from a b c ∷ []) ++ read_whole_tags (count - (i + 1)) behind) (behind_front-is a b c bytes)
    ∙ append_assoc kept (tag_from a b c ∷ []) _
    ∙ ap (λ (n : ℕ). kept ++ read_whole_tags n (a ∷ b ∷ c ∷ bytes)) (sym k) ∙ told

-- ---- what was taken

unless_ok : {Y : Type 0} (f : Option RowFault) (x y : Y) → unless_fault f x ≡ Ok y → (f ≡ None) × (x ≡ y)
unless_ok None x y e = (refl, cc (e))
unless_ok (Some fault) x y e = absurd cc

no_fault : (rising short : Bool) → cond (not rising) (Some faults.NotRising) (cond short (Some faults.Truncated) None) ≡ None → (rising ≡ true) × (short ≡ false)
no_fault true true e = absurd (cc)
no_fault true false e = (refl, refl)
no_fault false short e = absurd (cc)

-- the tags that stand whole are all, and their bytes stand in front
record Whole (n : ℕ) (bytes : List ℕ) : Type 0 where
  parts : bytes ≡ flat_map tag_value (read_whole_tags n bytes) ++ drop (3 * n) bytes
  count : length (read_whole_tags n bytes) ≡ n

pub enough_whole : (n : ℕ) → nat_lt 0 (suc n) ≡ false → ⊥
enough_whole n h = let t = zero_is_less n in cc

whole_parts : (n : ℕ) (bytes : List ℕ) → ((i : ℕ) → get_or bytes i 0 < 256) → nat_lt (length (read_whole_tags n bytes)) n ≡ false → Whole n bytes
whole_parts zero bytes fits enough = record { parts = refl; count = refl }
whole_parts (suc n) [] fits enough = absurd (enough_whole n enough)
whole_parts (suc n) (a ∷ []) fits enough = absurd (enough_whole n enough)
whole_parts (suc n) (a ∷ b ∷ []) fits enough = absurd (enough_whole n enough)
whole_parts (suc n) (a ∷ b ∷ c ∷ bytes) fits enough =
    let more = whole_parts n bytes (λ i. fits (suc (suc (suc i)))) (sym (successors_compare_alike (length (read_whole_tags n bytes)) n) ∙ enough) in
    let low_fits : c < 256 = fits 2 in
    let high_part : (256 * b + c) / 256 ≡ b = omega arith in
    let low_part : (256 * b + c) % 256 ≡ c = omega arith in
    record {
      parts = rw (high_part, low_part, three_more n) (ap (λ (rest : List ℕ). a ∷ b ∷ c ∷ rest) more.parts);
      count = ap suc more.count;
    }

-- what was read from the front: these bytes, and this many tags, which rise
record Taken (n : ℕ) (bytes : List ℕ) (tags : List Tag) (rest : List ℕ) : Type 0 where
  parts : bytes ≡ flat_map tag_value tags ++ rest
  count : length tags ≡ n
  rising : are_tags_rising None tags ≡ true
  behind : rest ≡ drop (3 * n) bytes

taken : (n : ℕ) (bytes : List ℕ) (tags : List Tag) (rest : List ℕ) → ((i : ℕ) → get_or bytes i 0 < 256) → first_tags_at n bytes ≡ Ok (tags, rest) → Taken n bytes tags rest
taken n bytes tags rest fits e =
    let u = unless_ok (fault_behind None n bytes) (read_whole_tags n bytes, drop (3 * n) bytes) (tags, rest) e in
    let t = no_fault (are_tags_rising None (read_whole_tags n bytes)) (nat_lt (length (read_whole_tags n bytes)) n) u.0 in
    let w = whole_parts n bytes fits t.1 in
    let tags_is : read_whole_tags n bytes ≡ tags = ap (λ (p : List Tag × List ℕ). p.0) u.1 in
    let rest_is : drop (3 * n) bytes ≡ rest = ap (λ (p : List Tag × List ℕ). p.1) u.1 in
    record {
      parts = w.parts ∙ ap₂ (λ (ts : List Tag) (r : List ℕ). flat_map tag_value ts ++ r) tags_is rest_is;
      count = ap length (sym tags_is) ∙ w.count;
      rising = ap (are_tags_rising None) (sym tags_is) ∙ t.0;
      behind = sym rest_is;
    }

-- what a count byte and its tags are: a list without a fault, its bytes, and the bytes behind
record Counted (bytes : List ℕ) (tags : List Tag) (rest : List ℕ) : Type 0 where
  parts : bytes ≡ counted_tags tags ++ rest
  faultless : tag_list_fault tags ≡ None
  fits : (i : ℕ) → get_or rest i 0 < 256

faultless_from : (tags : List Tag) → length tags < 256 → are_tags_rising None tags ≡ true → tag_list_fault tags ≡ None
faultless_from tags few rising =
    let t : nat_lt 255 (length tags) ≡ false = grind (arith, nat_tests) in
    rw (t, rising) refl

counted : (bytes : List ℕ) (tags : List Tag) (rest : List ℕ) → ((i : ℕ) → get_or bytes i 0 < 256) → counted_tags_at bytes ≡ Ok (tags, rest) → Counted bytes tags rest
counted [] tags rest fits e = absurd (cc)
counted (count ∷ bytes) tags rest fits e =
    let t = taken count bytes tags rest (λ i. fits (suc i)) e in
    record {
      parts = rw (t.count) (ap (λ (b : List ℕ). count ∷ b) t.parts);
      faultless = faultless_from tags (omega (arith, t.count, fits 0)) t.rising;
      fits = λ i. rw (t.behind, get_or-drop) (fits (suc (3 * count + i)));
    }

both_spelled : (bytes : List ℕ) (sources : List Tag) (rest : List ℕ) (destinations : List Tag) (behind : List ℕ) → ((i : ℕ) → get_or bytes i 0 < 256) → counted_tags_at bytes ≡ Ok (sources, rest) → counted_tags_at rest ≡ Ok (destinations, behind) → behind ≡ [] → (counted_tags sources ++ counted_tags destinations ≡ bytes) × (option_or (tag_list_fault sources) (tag_list_fault destinations) ≡ None)
both_spelled bytes sources rest destinations behind fits first second none =
    let a = counted bytes sources rest fits first in
    let b = counted rest destinations behind a.fits second in
    let last : counted_tags destinations ≡ rest = sym (b.parts ∙ ap (λ (r : List ℕ). counted_tags destinations ++ r) none ∙ append-nil (counted_tags destinations)) in
    (ap (λ (r : List ℕ). counted_tags sources ++ r) last ∙ sym a.parts, rw (a.faultless, b.faultless) refl)

-- what decodes is what encodes, and has no fault
pub lists_spelled : (bytes : List ℕ) (tags : ListedTags) → ((i : ℕ) → get_or bytes i 0 < 256) → listed_tags_at bytes ≡ Ok tags → (counted_tags tags.sources ++ counted_tags tags.destinations ≡ bytes) × (listed_tags_fault tags ≡ None)
lists_spelled bytes tags fits e =
    let s = bind_ok (counted_tags_at bytes) (λ sources. counted_tags_at sources.1 >>= λ destinations. at_end (record { sources = sources.0; destinations = destinations.0 }) destinations.1) tags e in
    let d = bind_ok (counted_tags_at s.0.1) (λ destinations. at_end (record { sources = s.0.0; destinations = destinations.0 }) destinations.1) tags s.2 in
    let made : ListedTags = record { sources = s.0.0; destinations = d.0.0 } in
    let v = end_value made tags d.0.1 d.2 in
    rw (v.0) (both_spelled bytes s.0.0 s.0.1 d.0.0 d.0.1 fits s.1 d.1 v.1)

-- ---- what was written is read again

whole_again : (tags : List Tag) (rest : List ℕ) → read_whole_tags (length tags) (flat_map tag_value tags ++ rest) ≡ tags
whole_again [] rest = refl
whole_again (tag ∷ tags) rest =
    let id_is : 256 * (tag.id / 256) + tag.id % 256 ≡ tag.id = omega arith in
    let same : tag_from tag.locality (tag.id / 256) (tag.id % 256) ≡ tag = ap (λ (id : ℕ). let t : Tag = record { locality = tag.locality; id = id } in t) id_is in
    ap₂ (λ (t : Tag) (ts : List Tag). t ∷ ts) same (whole_again tags rest)

drop_again : (tags : List Tag) (rest : List ℕ) → drop (3 * length tags) (flat_map tag_value tags ++ rest) ≡ rest
drop_again [] rest = refl
drop_again (tag ∷ tags) rest = rw (three_more (length tags)) (drop_again tags rest)

rising_by : (a b : Bool) → cond a (Some TooManyTags) (cond b None (Some NotRising)) ≡ None → b ≡ true
rising_by true b e = absurd (cc)
rising_by false true e = refl
rising_by false false e = absurd (cc)

counted_again : (tags : List Tag) (rest : List ℕ) → tag_list_fault tags ≡ None → counted_tags_at (counted_tags tags ++ rest) ≡ Ok (tags, rest)
counted_again tags rest faultless =
    let rising : are_tags_rising None tags ≡ true = rising_by (nat_lt 255 (length tags)) (are_tags_rising None tags) faultless in
    rw (whole_again tags rest, drop_again tags rest, rising, not_less_than_itself (length tags)) refl

no_faults : (a b : Option TagTeamsFault) → option_or a b ≡ None → (a ≡ None) × (b ≡ None)
no_faults (Some fault) b e = absurd (cc)
no_faults None b e = (refl, e)

pub lists_again : (tags : ListedTags) → listed_tags_fault tags ≡ None → listed_tags_at (counted_tags tags.sources ++ counted_tags tags.destinations) ≡ Ok tags
lists_again tags faultless =
    let parts = no_faults (tag_list_fault tags.sources) (tag_list_fault tags.destinations) faultless in
    let last : counted_tags_at (counted_tags tags.destinations) ≡ Ok (tags.destinations, []) = ap counted_tags_at (sym (append-nil (counted_tags tags.destinations))) ∙ counted_again tags.destinations [] parts.1 in
    rw (counted_again tags.sources (counted_tags tags.destinations) parts.0, last) refl

-- ---- the faults of lists of tags

tests_content : {Y : Type 0} (rising short : Bool) (y : Y) → FaultsAreContent (unless_fault (cond (not rising) (Some faults.NotRising) (cond short (Some faults.Truncated) None)) y)
tests_content true true y = refl
tests_content true false y = tt
tests_content false short y = refl

counted_content : (bytes : List ℕ) → FaultsAreContent (counted_tags_at bytes)
counted_content [] = refl
counted_content (count ∷ bytes) = tests_content (are_tags_rising None (read_whole_tags count bytes)) (nat_lt (length (read_whole_tags count bytes)) count) (read_whole_tags count bytes, drop (3 * count) bytes)

pub lists_content : (bytes : List ℕ) → FaultsAreContent (listed_tags_at bytes)
lists_content bytes =
    bind_content (counted_tags_at bytes) _ (counted_content bytes) (λ sources.
    bind_content (counted_tags_at sources.1) _ (counted_content sources.1) (λ destinations. end_content _ destinations.1))
