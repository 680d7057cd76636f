-- Bytes, as values are read of them.
use Rattle.std.proofs.Common.{◌≡◌, ℕ, List, Bool, true, false, cond, refl}
use Rattle.std.specs.Prelude.{IsUtf8, Option, None}
use Rattle.std.specs.Str.{is_utf8}
use Rattle.std.proofs.lemmas.Str.{IsUtf8-from_is_utf8, is_utf8-from_IsUtf8}
use Rattle.serde_json.specs.Data.{Data}
use Rattle.serde_json.specs.Read.{read}
use Rattle.scripts.specs.Values.{value_of}

-- the value of a text
pub value_of_text : (bytes : List ℕ) (value : Option Data) → IsUtf8 bytes → read bytes ≡ value → value_of bytes ≡ value
unfolding value_of
value_of_text bytes value text said =
    let yes = is_utf8-from_IsUtf8 bytes text in
    rw (yes, said) refl

-- bytes that are no text, or of which no value is read
pub no_value_of : (bytes : List ℕ) → (IsUtf8 bytes → read bytes ≡ None) → value_of bytes ≡ None
unfolding value_of
no_value_of bytes none = go (is_utf8 bytes) (read bytes) (λ yes. none (IsUtf8-from_is_utf8 bytes yes))
  where
    go : (b : Bool) (value : Option Data) → (b ≡ true → value ≡ None) → ◌≡◌ {A = Option Data} (cond b value None) None
    go true value missing = missing refl
    go false value missing = refl
