-- The lines that are printed of a routing, of asked keys and of refusals (this project's profile).
use Rattle.std.specs.Prelude.{ℕ, List, [], ◌∷◌, ◌++◌, map, flat_map, codes}
use Rattle.std.specs.Prelude.{Bool, true, false, Option, Some, None}
use Rattle.std.specs.Fmt.{decimal}
use Rattle.system_keys.specs.declared.tag.Tag.{Tag}
use Rattle.system_keys.specs.Keys.{Key}
use Rattle.system_keys.specs.Text.{text_of}
use Rattle.model.specs.declared.routing.Route.{Route}
use Rattle.model.specs.declared.routing.Routing.{Routing}
use Rattle.model.specs.Metadata.{Entries, tags_of_key}

-- every line ends with one line feed
abbrev pub line : List ℕ → List ℕ
line words = words ++ 10 ∷ []

-- the text of bytes between double quotes
abbrev pub quoted : List ℕ → List ℕ
quoted bytes = 34 ∷ text_of bytes ++ 34 ∷ []

-- a tag: its locality, a colon, its id
abbrev pub tag_text : Tag → List ℕ
tag_text tag = decimal tag.locality ++ 58 ∷ decimal tag.id

-- a word after one space
abbrev pub spaced : List ℕ → List ℕ
spaced word = 32 ∷ word

-- words joined by one space, or `none` without words
abbrev pub list_text : List (List ℕ) → List ℕ
list_text [] = codes "none"
list_text (word ∷ words) = word ++ flat_map spaced words

abbrev pub tags_text : List Tag → List ℕ
tags_text tags = list_text (map tag_text tags)

abbrev pub version_line : ℕ → List ℕ
version_line version = line (codes "version " ++ decimal version)

abbrev pub yes_or_no : Bool → List ℕ
yes_or_no true = codes "yes"
yes_or_no false = codes "no"

abbrev pub locked_line : Bool → List ℕ
locked_line locked = line (codes "locked " ++ yes_or_no locked)

abbrev pub quoted_or_none : Option (List ℕ) → List ℕ
quoted_or_none None = codes "none"
quoted_or_none (Some value) = quoted value

abbrev pub metadata_version_line : Option (List ℕ) → List ℕ
metadata_version_line value = line (codes "metadata_version " ++ quoted_or_none value)

abbrev pub route_line : Route → List ℕ
route_line route = line (codes "route " ++ quoted route.key ++ spaced (tags_text route.tags))

-- what stands before the routes of a routing: its version, its lock and its metadata version
abbrev pub routing_head : ℕ → Bool → Option (List ℕ) → List ℕ
routing_head version locked value =
    version_line version ++ locked_line locked ++ metadata_version_line value

-- the routing: its version, its lock, its metadata version, and a line for each of its routes
abbrev pub routing_text : Routing → List ℕ
routing_text routing =
    routing_head routing.version routing.locked routing.metadata_version
    ++ flat_map route_line routing.routes

-- a key that is asked, and its tags
abbrev pub tags_line : Key → List Tag → List ℕ
tags_line key tags = line (codes "tags " ++ quoted key ++ spaced (tags_text tags))

-- an asked key with the tags that these rows give it
abbrev pub asked_line : Entries → Key → List ℕ
asked_line rows key = tags_line key (tags_of_key rows key)

-- the asked keys, in the order of the script
abbrev pub asked_text : Entries → List Key → List ℕ
asked_text rows keys = flat_map (asked_line rows) keys

-- a number, or `none`
abbrev pub number_or_none : Option ℕ → List ℕ
number_or_none None = codes "none"
number_or_none (Some n) = decimal n

-- the number and the name of a refusal
abbrev pub refused_text : Option ℕ → List ℕ → List ℕ
refused_text number name = codes "refused " ++ number_or_none number ++ spaced name

-- a refused script: the number and the name of its fault
abbrev pub refused_line : ℕ → List ℕ → List ℕ
refused_line number name = line (refused_text (Some number) name)
