-- Lists of values of a shape, as their tokens come.
use Rattle.std.proofs.Common.{◌≡◌, ◌∙◌, ◌-◌, ◌<◌, ◌≤◌, ◌++◌, ℕ, List, [], ◌∷◌, length, refl, sym, ap, append_assoc, append-nil, arith}
use Rattle.std.specs.Prelude.{Option, Some, None, option_map, option_and_then}
use Rattle.json.specs.Token.{Token}
use Rattle.json.specs.Json as json
use Rattle.json.specs.Json.{after_end_array, items, parse_map, value}
use Rattle.json.proofs.Grammar.{items_end, items_more, value_is, value-begin_array}
use Rattle.serde_json.specs.Data.{Data, array, Items, no_items, item}
use Rattle.serde_json.specs.Read.{of_json, of_items, converted}
use Rattle.scripts.specs.Shapes.{◌>>=◌, bytes_shape, each_shape, list_shape, pair_of, pair_shape}
use Rattle.scripts.specs.Streams.{json_shape, each_json, Takes, TakesData, TakesEach}
use Rattle.scripts.proofs.StreamLemmas.{converted_some, and_then_some, takes_data, taken_shorter}

-- ---- a list up to some item

-- the items that were read in front of what is left stand for these
abbrev pub SoFar : {X : Type 0} → (Data → Option X) → ℕ → List Token → List X → List Token → Type 0
SoFar shape depth start front now =
    (n : ℕ) × (length now ≤ n) × (converted (each_json shape) (items (value depth) (length start) start) ≡ parse_map (λ ys. front ++ ys) (converted (each_json shape) (items (value depth) n now)))

nothing_in_front : {X : Type 0} (r : Option (List X × List Token)) → r ≡ parse_map (λ ys. [] ++ ys) r
nothing_in_front None = refl
nothing_in_front (Some p) = refl

pub so_far_start : {X : Type 0} (shape : Data → Option X) (depth : ℕ) (start : List Token) → SoFar shape depth start [] start
so_far_start shape depth start = (length start, omega arith, nothing_in_front (converted (each_json shape) (items (value depth) (length start) start)))

one_more : {X : Type 0} (x : X) (front : List X) (rest : List Token) (read : Option (List X))
    → parse_map (λ ys. front ++ ys) (option_map (λ b. (b, rest)) (option_map (λ ys. x ∷ ys) read)) ≡ parse_map (λ ys. (front ++ x ∷ []) ++ ys) (option_map (λ b. (b, rest)) read)
one_more x front rest None = refl
one_more x front rest (Some ys) = ap (λ zs. Some (zs, rest)) (sym (append_assoc front (x ∷ []) ys))

item_in_front : {X : Type 0} (shape : Data → Option X) (d : Data) (x : X) → shape d ≡ Some x → (front : List X) (rest : List Token) (read : Option Items)
    → parse_map (λ ys. front ++ ys) (option_map (λ b. (b, rest)) (option_and_then (each_shape shape) (option_map (item d) read)))
    ≡ parse_map (λ ys. (front ++ x ∷ []) ++ ys) (option_map (λ b. (b, rest)) (option_and_then (each_shape shape) read))
item_in_front shape d x is front rest None = refl
item_in_front shape d x is front rest (Some ds) = rw is (one_more x front rest (each_shape shape ds))

value_in_front : {X : Type 0} (shape : Data → Option X) (j : json.Json) (x : X) → json_shape shape j ≡ Some x → (front : List X) (o : Option (json.Items × List Token))
    → parse_map (λ ys. front ++ ys) (converted (each_json shape) (parse_map (json.item j) o)) ≡ parse_map (λ ys. (front ++ x ∷ []) ++ ys) (converted (each_json shape) o)
value_in_front shape j x is front None = refl
value_in_front shape j x is front (Some p) =
    let found = and_then_some shape (of_json j) x is in
    rw found.1 (item_in_front shape found.0 x found.2 front p.1 (of_items p.0))

pub so_far_turn : {X : Type 0} (shape : Data → Option X) (depth : ℕ) (start now new : List Token) (front : List X) (x : X)
    → SoFar shape depth start front now → after_end_array now ≡ None → Takes shape depth now x new → SoFar shape depth start (front ++ x ∷ []) new
so_far_turn shape depth start now new front x so_far going taken =
    let n = so_far.0 in
    let shorter = taken_shorter shape depth now new x taken in
    let read = converted_some (json_shape shape) (value depth now) x new taken in
    let turn = items_more (value depth) n now new read.0 (omega (arith, shorter, so_far.1)) going read.1 in (
      n - 1,
      omega (arith, shorter, so_far.1),
      so_far.2 ∙ ap (λ o. parse_map (λ ys. front ++ ys) (converted (each_json shape) o)) turn ∙ value_in_front shape read.0 x read.2 front (items (value depth) (n - 1) new),
    )

pub so_far_end : {X : Type 0} (shape : Data → Option X) (depth : ℕ) (start now new : List Token) (front : List X)
    → SoFar shape depth start front now → after_end_array now ≡ Some new → TakesEach shape depth start front new
so_far_end shape depth start now new front so_far closed =
    so_far.2 ∙ ap (λ o. parse_map (λ ys. front ++ ys) (converted (each_json shape) o)) (items_end (value depth) so_far.0 now new so_far.1 closed) ∙ ap (λ ys. Some (ys, new)) (append-nil front)

-- ---- a whole list

array_of : (depth : ℕ) (old inside new : List Token) (js : json.Items) (ds : Items)
    → old ≡ Token.begin_array ∷ inside → 0 < depth → items (value (depth - 1)) (length inside) inside ≡ Some (js, new) → of_items js ≡ Some ds → TakesData depth old (array ds) new
array_of depth old inside new js ds first some read is = rw (first, value-begin_array depth inside some, read, is) refl

pub taken_array : {X : Type 0} (shape : Data → Option X) (depth : ℕ) (old inside new : List Token) (xs : List X)
    → old ≡ Token.begin_array ∷ inside → 0 < depth → TakesEach shape (depth - 1) inside xs new → (ds : Items) × TakesData depth old (array ds) new × (each_shape shape ds ≡ Some xs)
taken_array shape depth old inside new xs first some taken =
    let read = converted_some (each_json shape) (items (value (depth - 1)) (length inside) inside) xs new taken in
    let found = and_then_some (each_shape shape) (of_items read.0) xs read.2 in
    (found.0, array_of depth old inside new read.0 found.0 first some read.1 found.1, found.2)

pub takes_list : {X : Type 0} (shape : Data → Option X) (depth : ℕ) (old inside new : List Token) (xs : List X)
    → old ≡ Token.begin_array ∷ inside → 0 < depth → TakesEach shape (depth - 1) inside xs new → Takes (list_shape shape) depth old xs new
takes_list shape depth old inside new xs first some taken =
    let found = taken_array shape depth old inside new xs first some taken in
    takes_data (list_shape shape) depth (array found.0) old new xs found.1 found.2

-- ---- a list of two

-- a value does not begin with the bracket that closes a list
pub no_end : {X : Type 0} (shape : Data → Option X) (depth : ℕ) (ts : List Token) (x : X) (new : List Token) → Takes shape depth ts x new → after_end_array ts ≡ None
no_end shape depth [] x new taken = refl
no_end shape depth (Token.begin_object ∷ ts) x new taken = refl
no_end shape depth (Token.end_object ∷ ts) x new taken = refl
no_end shape depth (Token.begin_array ∷ ts) x new taken = refl
no_end shape depth (Token.end_array ∷ ts) x new taken =
    let none : converted (json_shape shape) (value depth (Token.end_array ∷ ts)) ≡ None = rw (value_is depth (Token.end_array ∷ ts)) refl in
    absurd (cc)
no_end shape depth (Token.key s ∷ ts) x new taken = refl
no_end shape depth (Token.string s ∷ ts) x new taken = refl
no_end shape depth (Token.number s ∷ ts) x new taken = refl
no_end shape depth (Token.boolean b ∷ ts) x new taken = refl
no_end shape depth (Token.null ∷ ts) x new taken = refl
no_end shape depth (Token.bad ∷ ts) x new taken = refl

abbrev first_or : {X : Type 0} → X → Option (List X) → X
first_or x None = x
first_or x (Some []) = x
first_or x (Some (y ∷ ys)) = y

abbrev rest_of : {X : Type 0} → Option (List X) → Option (List X)
rest_of None = None
rest_of (Some []) = None
rest_of (Some (y ∷ ys)) = Some ys

abbrev each_behind : {X : Type 0} → Option X → Option (List X) → Option (List X)
each_behind first rest = first >>= (λ x. option_map (λ xs. x ∷ xs) rest)

read_first : {X : Type 0} (first : Option X) (rest : Option (List X)) (x : X) (xs : List X) → each_behind first rest ≡ Some (x ∷ xs) → (first ≡ Some x) × (rest ≡ Some xs)
read_first None rest x xs is = absurd (cc)
read_first (Some y) None x xs is = absurd (cc)
read_first (Some y) (Some ys) x xs is = (ap (λ o. Some (first_or x o)) is, ap rest_of is)

pair_of_each : (ds : Items) (x y : List ℕ) → each_shape bytes_shape ds ≡ Some (x ∷ y ∷ []) → pair_of ds ≡ Some (x, y)
pair_of_each no_items x y is = absurd (cc)
pair_of_each (item d no_items) x y is =
    let found = read_first (bytes_shape d) (Some []) x (y ∷ []) is in
    absurd (cc)
pair_of_each (item d (item e no_items)) x y is =
    let found = read_first (bytes_shape d) (each_shape bytes_shape (item e no_items)) x (y ∷ []) is in
    let last = read_first (bytes_shape e) (Some []) y [] found.1 in
    rw (found.0, last.0) refl
pair_of_each (item d (item e (item f ds))) x y is =
    let found = read_first (bytes_shape d) (each_shape bytes_shape (item e (item f ds))) x (y ∷ []) is in
    let last = read_first (bytes_shape e) (each_shape bytes_shape (item f ds)) y [] found.1 in
    absurd (no_third (bytes_shape f) (each_shape bytes_shape ds) last.1)
  where
    no_third : {X : Type 0} (first : Option X) (rest : Option (List X)) → each_behind first rest ≡ Some [] → ⊥
    no_third None rest is = cc
    no_third (Some z) None is = cc
    no_third (Some z) (Some zs) is = cc

pub takes_pair : (depth : ℕ) (old a b c new : List Token) (x y : List ℕ)
    → old ≡ Token.begin_array ∷ a → 0 < depth → Takes bytes_shape (depth - 1) a x b → Takes bytes_shape (depth - 1) b y c → after_end_array c ≡ Some new
    → Takes pair_shape depth old (x, y) new
takes_pair depth old a b c new x y first some left right closed =
    let one = so_far_turn bytes_shape (depth - 1) a a b [] x (so_far_start bytes_shape (depth - 1) a) (no_end bytes_shape (depth - 1) a x b left) left in
    let two = so_far_turn bytes_shape (depth - 1) a b c (x ∷ []) y one (no_end bytes_shape (depth - 1) b y c right) right in
    let both = so_far_end bytes_shape (depth - 1) a c new (x ∷ y ∷ []) two closed in
    let found = taken_array bytes_shape depth old a new (x ∷ y ∷ []) first some both in
    takes_data pair_shape depth (array found.0) old new (x, y) found.1 (pair_of_each found.0 x y found.2)
