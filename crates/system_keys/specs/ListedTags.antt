-- Lists of tags in the value of a keyServers row: one spelling of each, and reading them from the
-- front with the first fault met (this project's profile).
use Rattle.std.specs.Prelude.{ℕ, zero, suc, ◌*◌, List, [], ◌∷◌, ◌++◌, length, drop, Bool, true}
use Rattle.std.specs.Prelude.{◌≡◌, ◌<◌, ◌⊎◌, ◌&&◌, not, nat_lt, if◌then◌else◌, Option, Some, None, Result, Err}
use Rattle.std.specs.List.{flat_map}
use Rattle.std.specs.Option.{option_or}
use Rattle.std.specs.declared.cmp.Ordering.{Ordering}
use Rattle.std.specs.Ordering.{nat_cmp, ordering_then, is_lt}
use Rattle.system_keys.specs.declared.refusal.RowFault.{RowFault}
use Rattle.system_keys.specs.declared.refusal.RowFault.TheVariants as faults
use Rattle.system_keys.specs.declared.tag.Tag.{Tag}
use Rattle.system_keys.specs.declared.tag_teams.TagTeamsFault.{TagTeamsFault}
use Rattle.system_keys.specs.declared.tag_teams.TagTeamsFault.TheVariants.{NotRising, TooManyTags}
use Rattle.system_keys.specs.AsSpecified.{unless_fault}
use Rattle.system_keys.specs.Rows.{tag_value, tag_from, at_end, ◌>>=◌}

-- the tags of a range of keys: those of the storage servers that have it, and of those that it moves
-- to
pub record ListedTags : Type 0 where
  pub sources : List Tag
  pub destinations : List Tag

-- ---- the spelling

-- a count byte, and that many tags
abbrev pub counted_tags : List Tag → List ℕ
counted_tags tags = length tags ∷ flat_map tag_value tags

-- two zero bytes, a count byte and that many tags, and again a count byte and that many tags
abbrev pub listed_tags_value : ListedTags → List ℕ
listed_tags_value tags = 0 ∷ 0 ∷ counted_tags tags.sources ++ counted_tags tags.destinations

-- ---- what may be spelled

-- the order of tags: by their locality, and then by their id
abbrev pub tag_cmp : (a b : Tag) → Ordering
tag_cmp a b = ordering_then (nat_cmp a.locality b.locality) (nat_cmp a.id b.id)

-- the first tag is below the second: its locality is less, or that is the same and its id is less
abbrev pub IsTagBelow : (a b : Tag) → Type 0
IsTagBelow a b = (a.locality < b.locality) ⊎ ((a.locality ≡ b.locality) × (a.id < b.id))

-- the tag is above the one before it, if there is one
abbrev pub is_tag_above : Option Tag → Tag → Bool
is_tag_above None tag = true
is_tag_above (Some before) tag = is_lt (tag_cmp before tag)

-- each tag is above the one before it
abbrev pub are_tags_rising : Option Tag → List Tag → Bool
are_tags_rising before [] = true
are_tags_rising before (tag ∷ tags) = is_tag_above before tag && are_tags_rising (Some tag) tags

-- what a count byte can count
abbrev pub tags_limit : ℕ
tags_limit = 255

-- why a list of tags has no spelling: a count byte can't count it, or it does not rise
abbrev pub tag_list_fault : List Tag → Option TagTeamsFault
tag_list_fault tags =
    if nat_lt tags_limit (length tags) then Some TooManyTags
    else if are_tags_rising None tags then None
    else Some NotRising

-- why two lists have no spelling: the sources are looked at first
abbrev pub listed_tags_fault : ListedTags → Option TagTeamsFault
listed_tags_fault tags = option_or (tag_list_fault tags.sources) (tag_list_fault tags.destinations)

-- ---- reading

-- the bytes of a tag
abbrev pub tag_length : ℕ
tag_length = 3

-- the tags that stand whole at the front, the first n at most
abbrev pub read_whole_tags : ℕ → List ℕ → List Tag
read_whole_tags zero bytes = []
read_whole_tags (suc n) (locality ∷ high ∷ low ∷ bytes) =
    tag_from locality high low ∷ read_whole_tags n bytes
read_whole_tags (suc n) bytes = []

-- Why n tags cannot be read from the front: of those that stand there whole, one is not above the
-- one before it; otherwise, fewer than n stand there whole.
abbrev pub first_tags_fault : ℕ → List ℕ → Option RowFault
first_tags_fault n bytes =
    if not (are_tags_rising None (read_whole_tags n bytes)) then Some faults.NotRising
    else if nat_lt (length (read_whole_tags n bytes)) n then Some faults.Truncated
    else None

-- n tags from the front, and the bytes behind them
abbrev pub first_tags_at : ℕ → List ℕ → Result (List Tag × List ℕ) RowFault
first_tags_at n bytes =
    unless_fault (first_tags_fault n bytes) (read_whole_tags n bytes, drop (tag_length * n) bytes)

-- a count byte, and that many tags
abbrev pub counted_tags_at : List ℕ → Result (List Tag × List ℕ) RowFault
counted_tags_at [] = Err faults.Truncated
counted_tags_at (count ∷ bytes) = first_tags_at count bytes

-- as many tags as the count byte says, of those that stand behind it whole
abbrev pub whole_tags_counted : List ℕ → List Tag
whole_tags_counted [] = []
whole_tags_counted (count ∷ bytes) = read_whole_tags count bytes

-- the two lists of tags that stand behind the two zero bytes, or their first fault
abbrev pub listed_tags_at : List ℕ → Result ListedTags RowFault
listed_tags_at bytes =
    counted_tags_at bytes >>= λ sources.
    counted_tags_at sources.1 >>= λ destinations.
    at_end (record { sources = sources.0; destinations = destinations.0 }) destinations.1
