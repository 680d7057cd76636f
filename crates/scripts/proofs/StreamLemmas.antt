-- Values of a shape, as their tokens come.
use Rattle.std.proofs.Common.{◌≡◌, ◌<◌, ◌≤◌, ℕ, Bool, List, ◌∷◌, length, refl, ap}
use Rattle.std.specs.Prelude.{Option, Some, None, option_map, option_and_then}
use Rattle.std.proofs.lemmas.Bool.{le-leb}
use Rattle.json.specs.Token.{Token}
use Rattle.json.specs.Json as json
use Rattle.json.specs.Json.{value}
use Rattle.json.proofs.Grammar.{value_is, left, skip_value-shorter}
use Rattle.serde_json.specs.Data.{Data, string, unsigned}
use Rattle.serde_json.specs.Find.{as_bool}
use Rattle.serde_json.specs.Read.{of_json, converted, number_of}
use Rattle.scripts.specs.Shapes.{number_limit, number_shape}
use Rattle.scripts.specs.Streams.{json_shape, Takes, TakesData}

-- ---- what was read, taken apart

abbrev pick : {A : Type 0} → A → Option A → A
pick a None = a
pick a (Some b) = b

with_rest : {B : Type 0} (r s : List Token) (o : Option B) (b : B) → option_map {U = B × List Token} (λ y. (y, r)) o ≡ Some (b, s) → (r ≡ s) × (o ≡ Some b)
with_rest r s None b is = absurd (cc)
with_rest r s (Some y) b is = let same = ap (pick (y, r)) is in (ap (λ p. p.1) same, ap (λ p. Some p.0) same)

pub converted_some : {A B : Type 0} (f : A → Option B) (o : Option (A × List Token)) (b : B) (r : List Token) → converted f o ≡ Some (b, r) → (a : A) × (o ≡ Some (a, r)) × (f a ≡ Some b)
converted_some f None b r is = absurd (cc)
converted_some f (Some p) b r is = let both = with_rest p.1 r (f p.0) b is in (p.0, ap (λ s. Some (p.0, s)) both.0, both.1)

pub and_then_some : {A B : Type 0} (f : A → Option B) (o : Option A) (b : B) → option_and_then f o ≡ Some b → (a : A) × (o ≡ Some a) × (f a ≡ Some b)
and_then_some f None b is = absurd (cc)
and_then_some f (Some a) b is = (a, refl, is)

-- the data of a value of the grammar
data_of : (depth : ℕ) (old new : List Token) (j : json.Json) (d : Data) → value depth old ≡ Some (j, new) → of_json j ≡ Some d → TakesData depth old d new
data_of depth old new j d read is = rw (read, is) refl

-- the data of a value of a shape
pub takes_data : {X : Type 0} (shape : Data → Option X) (depth : ℕ) (d : Data) (old new : List Token) (x : X)
    → TakesData depth old d new → shape d ≡ Some x → Takes shape depth old x new
takes_data shape depth d old new x taken is =
    let read = converted_some of_json (value depth old) d new taken in
    rw (read.1, read.2, is) refl

pub taken_data : {X : Type 0} (shape : Data → Option X) (depth : ℕ) (old new : List Token) (x : X)
    → Takes shape depth old x new → (d : Data) × TakesData depth old d new × (shape d ≡ Some x)
taken_data shape depth old new x taken =
    let read = converted_some (json_shape shape) (value depth old) x new taken in
    let found = and_then_some shape (of_json read.0) x read.2 in
    (found.0, data_of depth old new read.0 found.0 read.1 found.1, found.2)

-- a value takes at least one token
pub taken_shorter : {X : Type 0} (shape : Data → Option X) (depth : ℕ) (old new : List Token) (x : X)
    → Takes shape depth old x new → length new < length old
taken_shorter shape depth old new x taken =
    let read = converted_some (json_shape shape) (value depth old) x new taken in
    skip_value-shorter depth old new (ap left read.1)

pub data_shorter : (depth : ℕ) (d : Data) (old new : List Token) → TakesData depth old d new → length new < length old
data_shorter depth d old new taken =
    let read = converted_some of_json (value depth old) d new taken in
    skip_value-shorter depth old new (ap left read.1)

-- ---- texts, numbers, truth values

pub takes_text : {X : Type 0} (shape : Data → Option X) (depth : ℕ) (text : List ℕ) (old new : List Token) (x : X)
    → old ≡ Token.string text ∷ new → shape (string text) ≡ Some x → Takes shape depth old x new
takes_text shape depth text old new x first is = rw (first, value_is depth (Token.string text ∷ new), is) refl

pub takes_bool : (depth : ℕ) (b : Bool) (old new : List Token) → old ≡ Token.boolean b ∷ new → Takes as_bool depth old b new
takes_bool depth b old new first = rw (first, value_is depth (Token.boolean b ∷ new)) refl

pub takes_number : (depth : ℕ) (text : List ℕ) (n : ℕ) (old new : List Token)
    → old ≡ Token.number text ∷ new → number_of text ≡ Some (unsigned n) → n ≤ number_limit → Takes number_shape depth old n new
takes_number depth text n old new first is within = rw (first, value_is depth (Token.number text ∷ new), is, le-leb n number_limit within) refl
