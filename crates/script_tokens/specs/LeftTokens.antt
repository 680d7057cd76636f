-- The tokens that are left of a script, and what stands first in a text.
use Rattle.std.specs.Prelude.{◌≡◌, ℕ, List, ◌∷◌, Bool, true, not, ◌&&◌, ◌||◌, ◌==◌, nat_le}
use Rattle.json.specs.Token.{Token}
use Rattle.json.specs.Lex as spec
use Rattle.json.specs.Lex.{between, lex, may_begin, punctuate}
use Rattle.script_tokens.specs.declared.place.Place.{Place}
use Rattle.script_tokens.specs.declared.place.Place.TheVariants.{Fresh, AfterValue}

-- the tokens of the text, behind what was taken last
abbrev pub tokens_left : Place → List ℕ → List Token
tokens_left Fresh text = punctuate spec.fresh (lex between text)
tokens_left AfterValue text = punctuate spec.after_value (lex between text)

-- the token stands first in the text, and `after` is the text behind it
abbrev pub StandsFirst : List ℕ → Token → List ℕ → Type 0
StandsFirst text token after = lex between text ≡ spec.token token ∷ lex between after

-- a colon stands first in the text, and `after` is the text behind it
abbrev pub ColonFirst : List ℕ → List ℕ → Type 0
ColonFirst text after = lex between text ≡ spec.colon ∷ lex between after

-- a value or a key may begin where the text `now` does, which is `old` without a comma
abbrev pub MayBegin : Place → List ℕ → List ℕ → Type 0
MayBegin place old now = (p : spec.Place) × (may_begin p ≡ true) × (tokens_left place old ≡ punctuate p (lex between now))

-- in a string, a byte of a character that stands for itself
abbrev pub is_own_byte : ℕ → Bool
is_own_byte byte = nat_le 32 byte && not (byte == 34) && not (byte == 92)

-- a comma, or a bracket that closes: behind a value it says that the value is no key
abbrev pub ends_value : ℕ → Bool
ends_value byte = (byte == 44) || (byte == 93) || (byte == 125)
