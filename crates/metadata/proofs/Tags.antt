-- Tags that are added one list after another.
use Rattle.std.proofs.Common.{◌≡◌, refl, sym, ap, ◌∙◌, ℕ, List, [], ◌∷◌, ◌++◌, fold, flat_map, get_or, drop, add-one, ◌<◌, ◌+◌, length, append_assoc, append-nil}
use Rattle.std.specs.BTreeSet.{insert_key}
use Rattle.std.proofs.lemmas.List.Sums.{fold-append}
use Rattle.std.proofs.Math.Seq.{drop-cons}
use Rattle.system_keys.specs.declared.tag.Tag.{Tag}
use Rattle.model.specs.Metadata.{sorted_tags}
use Rattle.system_keys.specs.ListedTags.{tag_cmp}

-- the tags after more of them
abbrev pub added : List Tag → List Tag → List Tag
added tags more = fold (insert_key tag_cmp) tags more

pub added_both : (tags more rest : List Tag) → added (added tags more) rest ≡ added tags (more ++ rest)
added_both tags more rest = sym (fold-append (insert_key tag_cmp) tags more rest)

-- the tags of the list at i, and then those of the lists behind it
pub next_tags : {X : Type 0} (f : X → List Tag) (tags : List Tag) (x : X) (xs : List X) → fold (insert_key tag_cmp) (fold (insert_key tag_cmp) tags (f x)) (flat_map f xs) ≡ fold (insert_key tag_cmp) tags (flat_map f (x ∷ xs))
next_tags f tags x xs = added_both tags (f x) (flat_map f xs)

-- a loop over a list, which adds the tags of each element
pub step_at : {X : Type 0} (f : X → List Tag) (xs : List X) (d : X) (i : ℕ) (before now all : List Tag) → i < length xs → now ≡ added before (f (get_or xs i d))
    → added before (flat_map f (drop i xs)) ≡ all → added now (flat_map f (drop (i + 1) xs)) ≡ all
step_at {X = X} f xs d i before now all within is so_far =
    let split : drop i xs ≡ get_or xs i d ∷ drop (i + 1) xs = rw (add-one, drop-cons xs i d) in
    ap (λ (tags : List Tag). added tags (flat_map f (drop (i + 1) xs))) is
    ∙ next_tags f before (get_or xs i d) (drop (i + 1) xs)
    ∙ ap (λ (rest : List X). added before (flat_map f rest)) (sym split)
    ∙ so_far

pub rising_from : (made now tags : List Tag) → made ≡ [] → now ≡ added made tags → now ≡ sorted_tags tags
rising_from made now tags none is = is ∙ ap (λ (first : List Tag). added first tags) none

both_lists : {X : Type 0} (f : X → List Tag) (first more : List X) → flat_map f first ++ flat_map f more ≡ flat_map f (first ++ more)
both_lists f [] more = refl
both_lists f (x ∷ first) more = append_assoc (f x) (flat_map f first) (flat_map f more) ∙ ap (λ (rest : List Tag). f x ++ rest) (both_lists f first more)

-- the tags of the sources and then those of the destinations: of a value that names servers, which lists none
pub named_tags : {X : Type 0} (f : X → List Tag) (first more : List X) (tags : List Tag) → fold (insert_key tag_cmp) (fold (insert_key tag_cmp) tags (flat_map f first)) (flat_map f more) ≡ fold (insert_key tag_cmp) tags (flat_map f (first ++ more) ++ [])
named_tags f first more tags = added_both tags (flat_map f first) (flat_map f more) ∙ ap (added tags) (both_lists f first more ∙ sym (append-nil (flat_map f (first ++ more))))

-- and of a value that lists tags, which names no servers
pub listed_both : (first more tags : List Tag) → fold (insert_key tag_cmp) (fold (insert_key tag_cmp) tags first) more ≡ fold (insert_key tag_cmp) tags (first ++ more)
listed_both first more tags = added_both tags first more

pub rising_both : {X : Type 0} (f : X → List Tag) (first more : List X) (made between now : List Tag) → made ≡ [] → between ≡ added made (flat_map f first) → now ≡ added between (flat_map f more)
    → now ≡ sorted_tags (flat_map f (first ++ more))
rising_both f first more made between now none then is =
    is
    ∙ ap (λ (tags : List Tag). added tags (flat_map f more)) (rising_from made between (flat_map f first) none then)
    ∙ added_both [] (flat_map f first) (flat_map f more)
    ∙ ap sorted_tags (both_lists f first more)

-- a loop over tags, which adds each
pub next_tag : (xs : List Tag) (d : Tag) (i : ℕ) (before now all : List Tag) → i < length xs → now ≡ insert_key tag_cmp before (get_or xs i d) → added before (drop i xs) ≡ all → added now (drop (i + 1) xs) ≡ all
next_tag xs d i before now all within is so_far =
    let split : drop i xs ≡ get_or xs i d ∷ drop (i + 1) xs = rw (add-one, drop-cons xs i d) in
    ap (λ (tags : List Tag). added tags (drop (i + 1) xs)) is ∙ ap (added before) (sym split) ∙ so_far
