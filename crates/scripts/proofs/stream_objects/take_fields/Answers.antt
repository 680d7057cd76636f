use Rattle.std.proofs.Common.{◌≡◌, ◌∙◌, ◌<◌, ℕ, List, length, Some, None, refl, sym, ap, arith, rules}
use Rattle.std.specs.Cow.{cow_str_bytes}
use Rattle.json.specs.Json.{read_key}
use Rattle.json.specs.Token.{Token}
use Rattle.json.proofs.Grammar.{read_key-shorter}
use Rattle.serde_json.specs.Data.{Data, no_members, put}
use Rattle.scripts.specs.Streams.{TakesData}
use Rattle.scripts.proofs.StreamLemmas.{data_shorter}
use Rattle.scripts.proofs.StreamObjectLemmas.{fields_start, fields_turn, fields_end}
use Rattle.scripts.proofs.stream_objects.take_fields.Goals as goal

read_as : (ended now inside : List Token) (key name : List ℕ) → ended ≡ now → name ≡ key → read_key ended ≡ Some (Some key, inside) → read_key now ≡ Some (Some name, inside)
read_as ended now inside key name going is read = ap read_key (sym going) ∙ read ∙ ap (λ k. Some (Some k, inside)) (sym is)

shorter : (depth : ℕ) (ended now inside new : List Token) (key : List ℕ) (d : Data) → ended ≡ now → read_key ended ≡ Some (Some key, inside) → TakesData depth inside d new → length new < length now
shorter depth ended now inside new key d going read taken =
    omega (arith, read_key-shorter now (Some key) inside (read_as ended now inside key key going refl read), data_shorter depth d inside new taken)

pub fields-init : goal.fields-init
fields-init g c = (no_members, fields_start c.args.depth c.args.reader.now, search rules)

-- at each end of a turn, behind which the name is let go, or was only lent
pub fields-smaller : goal.fields-smaller
fields-smaller g c =
    let inside = c.take_key.new.self in
    let going : c.take_end_object.new.self ≡ c.fields.reader = grind arith in
    let taken = c.in_ok-take_field.ensures in
    shorter c.args.depth c.take_end_object.new.self c.fields.reader inside c.take_field.new.reader (cow_str_bytes c.in_ok-name.name) taken.0 going c.in_ok-name.ensures taken.1

pub fields-smaller-in_ok-take_field : goal.fields-smaller-in_ok-take_field
fields-smaller-in_ok-take_field g c =
    let inside = c.take_key.new.self in
    let going : c.take_end_object.new.self ≡ c.fields.reader = grind arith in
    let taken = c.in_ok-take_field.ensures in
    shorter c.args.depth c.take_end_object.new.self c.fields.reader inside c.take_field.new.reader (cow_str_bytes c.in_ok-name.name) taken.0 going c.in_ok-name.ensures taken.1

pub fields-preserved : goal.fields-preserved
fields-preserved g c =
    let start = c.args.reader.now in
    let now = c.fields.reader in
    let name = c.as_str.result.now in
    let inside = c.take_key.new.self in
    let going : c.take_end_object.new.self ≡ now = grind arith in
    let named = read_as c.take_end_object.new.self now inside (cow_str_bytes c.in_ok-name.name) name going c.as_str.ensures.value c.in_ok-name.ensures in
    let (found, so_far, held) = c.fields.invariant in
    let taken = c.in_ok-take_field.ensures in (
      put name taken.0 found,
      fields_turn c.args.depth start now inside c.take_field.new.reader found name taken.0 so_far named taken.1,
      taken.2 found held,
    )

pub fields-preserved-in_ok-take_field : goal.fields-preserved-in_ok-take_field
fields-preserved-in_ok-take_field g c =
    let start = c.args.reader.now in
    let now = c.fields.reader in
    let name = c.as_str.result.now in
    let inside = c.take_key.new.self in
    let going : c.take_end_object.new.self ≡ now = grind arith in
    let named = read_as c.take_end_object.new.self now inside (cow_str_bytes c.in_ok-name.name) name going c.as_str.ensures.value c.in_ok-name.ensures in
    let (found, so_far, held) = c.fields.invariant in
    let taken = c.in_ok-take_field.ensures in (
      put name taken.0 found,
      fields_turn c.args.depth start now inside c.take_field.new.reader found name taken.0 so_far named taken.1,
      taken.2 found held,
    )

pub returns : goal.returns
returns g c =
    let now = c.fields.reader in
    let new = c.take_end_object.new.self in
    let closed : read_key now ≡ Some (None, new) = grind arith in
    let (found, so_far, held) = c.fields.invariant in
    (found, fields_end c.args.depth c.args.reader.now now new found so_far closed, held)
