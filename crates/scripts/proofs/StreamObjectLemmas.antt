-- Objects, as their tokens come, and the slots of their fields.
use Rattle.std.proofs.Common.{◌≡◌, ◌∙◌, ◌-◌, ◌<◌, ◌≤◌, ℕ, suc, false, List, ◌∷◌, length, refl, sym, ap, arith, true≢false, bytes_eq, Ordering, Less, Equal, Greater, nat_cmp}
use Rattle.std.specs.Prelude.{Option, Some, None, option_map, IfSome, IsSome}
use Rattle.std.specs.Cmp.Lexicographic.{slice_cmp}
use Rattle.std.proofs.lemmas.Slice.Eq.{bytes_eq-Decides}
use Rattle.json.specs.Token.{Token}
use Rattle.json.specs.Json as json
use Rattle.json.specs.Json.{members, parse_map, read_key, value}
use Rattle.json.proofs.Grammar.{members_end, members_more, read_key-shorter, value-begin_object}
use Rattle.serde_json.specs.Data.{Data, object, Members, no_members, member, put}
use Rattle.serde_json.specs.Find.{get_member}
use Rattle.serde_json.specs.Read.{of_json, of_members, converted}
use Rattle.serde_json.proofs.Views.{get_member-put, get_member-put_other}
use Rattle.scripts.specs.Shapes.{count_members}
use Rattle.scripts.specs.Streams.{Takes, TakesData, TakesMembers, Slot, Fills, one}
use Rattle.scripts.proofs.StreamLemmas.{converted_some, data_shorter, taken_data}

-- ---- an object up to some field

-- the fields that were read in front of what is left are these
abbrev pub FieldsSoFar : ℕ → List Token → Members → List Token → Type 0
FieldsSoFar depth start found now =
    (n : ℕ) × (length now ≤ n) × (converted (λ ms. of_members ms no_members) (members (value depth) (length start) start) ≡ converted (λ ms. of_members ms found) (members (value depth) n now))

pub fields_start : (depth : ℕ) (start : List Token) → FieldsSoFar depth start no_members start
fields_start depth start = (length start, omega arith, refl)

with_member : (k : List ℕ) (j : json.Json) (d : Data) (found : Members) → of_json j ≡ Some d → (o : Option (json.Members × List Token))
    → converted (λ ms. of_members ms found) (parse_map (json.member k j) o) ≡ converted (λ ms. of_members ms (put k d found)) o
with_member k j d found is None = refl
with_member k j d found is (Some p) = rw is refl

pub fields_turn : (depth : ℕ) (start now inside new : List Token) (found : Members) (k : List ℕ) (d : Data)
    → FieldsSoFar depth start found now → read_key now ≡ Some (Some k, inside) → TakesData depth inside d new → FieldsSoFar depth start (put k d found) new
fields_turn depth start now inside new found k d so_far named taken =
    let n = so_far.0 in
    let key = read_key-shorter now (Some k) inside named in
    let shorter = data_shorter depth d inside new taken in
    let read = converted_some of_json (value depth inside) d new taken in
    let turn = members_more (value depth) n k now inside new read.0 (omega (arith, key, so_far.1)) named read.1 in (
      n - 1,
      omega (arith, key, shorter, so_far.1),
      so_far.2 ∙ ap (converted (λ ms. of_members ms found)) turn ∙ with_member k read.0 d found read.2 (members (value depth) (n - 1) new),
    )

pub fields_end : (depth : ℕ) (start now new : List Token) (found : Members) → FieldsSoFar depth start found now → read_key now ≡ Some (None, new) → TakesMembers depth start found new
fields_end depth start now new found so_far closed =
    so_far.2 ∙ ap (converted (λ ms. of_members ms found)) (members_end (value depth) so_far.0 now new so_far.1 closed)

-- ---- a whole object

pub taken_object : (depth : ℕ) (old inside new : List Token) (ms : Members)
    → old ≡ Token.begin_object ∷ inside → 0 < depth → TakesMembers (depth - 1) inside ms new → TakesData depth old (object ms) new
taken_object depth old inside new ms first some taken =
    let read = converted_some (λ found. of_members found no_members) (members (value (depth - 1)) (length inside) inside) ms new taken in
    rw (first, value-begin_object depth inside some, read.1, read.2) refl

-- an object of one field
pub takes_one : {X : Type 0} (shape : Data → Option X) (depth : ℕ) (old a b c new : List Token) (k : List ℕ) (x : X)
    → old ≡ Token.begin_object ∷ a → 0 < depth → read_key a ≡ Some (Some k, b) → Takes shape (depth - 1) b x c → read_key c ≡ Some (None, new)
    → (d : Data) × TakesData depth old (object (member k d no_members)) new × (shape d ≡ Some x)
takes_one shape depth old a b c new k x first some named taken closed =
    let found = taken_data shape (depth - 1) b c x taken in
    let turn = fields_turn (depth - 1) a a b c no_members k found.0 (fields_start (depth - 1) a) named found.1 in
    let ended = fields_end (depth - 1) a c new (member k found.0 no_members) turn closed in
    (found.0, taken_object depth old a new (member k found.0 no_members) first some ended, found.2)

-- ---- the slots of fields

-- a filled slot holds its field
pub slot_put : {X : Type 0} (shape : Data → Option X) (name : List ℕ) (d : Data) (old new : Option X) (ms : Members) → Fills shape d old new → Slot shape name new (put name d ms)
slot_put shape name d old new ms fills = rw (get_member-put name d ms) (filled (shape d) new fills.value fills.filled)
  where
    filled : {X : Type 0} (shaped held : Option X) → shaped ≡ held → IsSome held → ◌≡◌ {A = Option (Option X)} (Some shaped) (option_map Some held)
    filled shaped None is some = absurd (true≢false (sym some))
    filled shaped (Some x) is some = ap (λ o. Some o) is

-- the slots of the other fields stay as they are
pub slot_other : {X : Type 0} (shape : Data → Option X) (name k : List ℕ) (held : Option X) (d : Data) (ms : Members) → bytes_eq name k ≡ false → Slot shape name held ms → Slot shape name held (put k d ms)
slot_other shape name k held d ms apart holds =
    let others : name ≡ k → ⊥ = λ same. true≢false (sym ((bytes_eq-Decides name k).1 same) ∙ apart) in
    rw (get_member-put_other name k d ms others) holds

-- ---- how many fields there are

counted : (o : Ordering) (k l : List ℕ) (d e : Data) (ms : Members) → slice_cmp nat_cmp k l ≡ o → get_member k (member l e ms) ≡ None → (get_member k ms ≡ None → count_members (put k d ms) ≡ suc (count_members ms))
    → count_members (put k d (member l e ms)) ≡ suc (count_members (member l e ms))
counted Less k l d e ms is none more = rw is refl
counted Equal k l d e ms is none more = absurd (cc)
counted Greater k l d e ms is none more = rw is (ap (λ n. suc n) (more (rw is at none)))

-- a field that was not there before
count_put : (k : List ℕ) (d : Data) (ms : Members) → get_member k ms ≡ None → count_members (put k d ms) ≡ suc (count_members ms)
count_put k d no_members none = refl
count_put k d (member l e ms) none = counted (slice_cmp nat_cmp k l) k l d e ms refl none (count_put k d ms)

-- a slot that was empty before
pub count_new : {X : Type 0} (shape : Data → Option X) (k : List ℕ) (d : Data) (old new : Option X) (ms : Members) → Fills shape d old new → Slot shape k old ms
    → (count_members (put k d ms) ≡ suc (count_members ms)) × (one old ≡ 0) × (one new ≡ 1)
count_new shape k d old new ms fills holds =
    (count_put k d ms (missing (get_member k ms) (rw fills.empty at holds)), rw fills.empty refl, filled new fills.filled)
  where
    missing : (o : Option Data) → option_map shape o ≡ None → o ≡ None
    missing None is = refl
    missing (Some d) is = absurd (cc)

    filled : {X : Type 0} (held : Option X) → IsSome held → one held ≡ 1
    filled None some = absurd (true≢false (sym some))
    filled (Some x) some = refl

-- what a function gives, as another fact of it
pub if_some_weaker : {X : Type 0} {P Q : X → Type 0} (r : Option X) → ((x : X) → P x → Q x) → IfSome r P → IfSome r Q
if_some_weaker None weaker holds = tt
if_some_weaker (Some x) weaker holds = weaker x holds

-- a slot that has a value was filled by data of that value
pub slot_value : {X : Type 0} (shape : Data → Option X) (read : Option Data) (x : X) → option_map shape read ≡ Some (Some x) → (d : Data) × (read ≡ Some d) × (shape d ≡ Some x)
slot_value shape None x is = absurd (cc)
slot_value shape (Some d) x is = (d, refl, ap (λ o. or_none o) is)
  where
    or_none : {X : Type 0} → Option (Option X) → Option X
    or_none None = None
    or_none (Some o) = o
