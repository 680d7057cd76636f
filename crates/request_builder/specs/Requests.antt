-- A request of its parts, and the tests of what every request keeps.
use Rattle.std.specs.Prelude.{ℕ, suc, List, [], ◌∷◌, Bool, true, not, ◌&&◌, if◌then◌else◌}
use Rattle.std.specs.Prelude.{nat_eq, nat_le, is_some, Option, Some, None}
use Rattle.std.specs.List.{list_any}
use Rattle.model.specs.declared.part.Part.{Part}
use Rattle.model.specs.declared.unseen.StateMark.{StateMark}
use Rattle.model.specs.Requests.{Request}
use Rattle.request_builder.specs.declared.header.RequestHeader.{RequestHeader}

-- the request of these numbers, this share and these marks
abbrev pub request_of : RequestHeader → (share : List Part) → (states : List StateMark) → Request
request_of header share states =
    record {
      resolver = header.resolver;
      proxy = header.proxy;
      row = header.row;
      previous = header.previous;
      version = header.version;
      last_received = header.last_received;
      share = share;
      states = states;
    }

-- ---- the tests of `KeepsRequestRule`

-- the numbers of the parts rise, and the first is at least `least`
abbrev pub part_numbers_rise : (least : ℕ) → List Part → Bool
part_numbers_rise least [] = true
part_numbers_rise least (part ∷ parts) = nat_le least part.number && part_numbers_rise (suc part.number) parts

-- the least number after the last one, or 0
abbrev pub least_after : (last : Option ℕ) → ℕ
least_after None = 0
least_after (Some n) = suc n

-- the mark names one of the parts
abbrev pub mark_names_part : List Part → StateMark → Bool
mark_names_part parts mark = list_any (λ (part : Part). nat_eq part.number mark.number) parts

-- the mark has the content of its transaction exactly if the resolver is 0
abbrev pub mark_fits_resolver : (resolver : ℕ) → StateMark → Bool
mark_fits_resolver resolver mark =
    if nat_eq resolver 0 then is_some mark.carried else not (is_some mark.carried)
