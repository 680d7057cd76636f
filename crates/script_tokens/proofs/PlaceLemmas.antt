-- The tokens that are left, when what stands first is taken.
use Rattle.std.proofs.Common.{◌≡◌, ◌∙◌, ℕ, Bool, false, List, [], ◌∷◌, refl, sym, ap}
use Rattle.std.specs.Prelude.{Some, None}
use Rattle.json.specs.Token.{Token}
use Rattle.json.specs.Token as tokens
use Rattle.json.specs.Json.{after_end_array, read_key}
use Rattle.json.specs.Lex as spec
use Rattle.json.specs.Lex.{Lexeme, token, comma, colon, between, lex, begins_colon, may_begin, place_token, punctuate}
use Rattle.script_tokens.specs.declared.place.Place.{Place}
use Rattle.script_tokens.specs.declared.place.Place.TheVariants.{Fresh, AfterValue}
use Rattle.script_tokens.specs.LeftTokens.{tokens_left, MayBegin, StandsFirst}

-- ---- where a value may begin

-- the same lexemes give the same tokens
pub same_left : (place : Place) (old new : List ℕ) → lex between new ≡ lex between old → tokens_left place new ≡ tokens_left place old
same_left Fresh old new same = ap (punctuate spec.fresh) same
same_left AfterValue old new same = ap (punctuate spec.after_value) same

pub begin_fresh : (old now : List ℕ) → lex between now ≡ lex between old → MayBegin Fresh old now
begin_fresh old now same = (spec.fresh, refl, ap (punctuate spec.fresh) (sym same))

behind_comma : (ls : List Lexeme) → punctuate spec.after_value (comma ∷ ls) ≡ punctuate spec.after_comma ls
unfolding punctuate
behind_comma ls = refl

pub begin_after_value : (old rest now : List ℕ) → lex between old ≡ comma ∷ lex between rest → lex between now ≡ lex between rest → MayBegin AfterValue old now
begin_after_value old rest now first same = (
  spec.after_comma,
  refl,
  ap (punctuate spec.after_value) first ∙ behind_comma (lex between rest) ∙ ap (punctuate spec.after_comma) (sym same),
)

token_placed : (p : spec.Place) (t : Token) (ls : List Lexeme) → punctuate p (token t ∷ ls) ≡ place_token p t (begins_colon ls) (λ next. punctuate next ls)
unfolding punctuate
token_placed spec.fresh t ls = refl
token_placed spec.after_value t ls = refl
token_placed spec.after_comma t ls = refl
token_placed spec.after_key t ls = refl

taken : (place : Place) (old now new : List ℕ) (t : Token) → (begin : MayBegin place old now) → StandsFirst now t new → tokens_left place old ≡ place_token begin.0 t (begins_colon (lex between new)) (λ next. punctuate next (lex between new))
taken place old now new t begin first = begin.2 ∙ ap (punctuate begin.0) first ∙ token_placed begin.0 t (lex between new)

pub takes_begin_array : (place : Place) (old now new : List ℕ) → MayBegin place old now → StandsFirst now tokens.begin_array new → tokens_left place old ≡ tokens.begin_array ∷ tokens_left Fresh new
takes_begin_array place old now new begin first = taken place old now new tokens.begin_array begin first ∙ rw (begin.1) refl

pub takes_begin_object : (place : Place) (old now new : List ℕ) → MayBegin place old now → StandsFirst now tokens.begin_object new → tokens_left place old ≡ tokens.begin_object ∷ tokens_left Fresh new
takes_begin_object place old now new begin first = taken place old now new tokens.begin_object begin first ∙ rw (begin.1) refl

pub takes_number : (place : Place) (old now new digits : List ℕ) → MayBegin place old now → StandsFirst now (tokens.number digits) new → tokens_left place old ≡ tokens.number digits ∷ tokens_left AfterValue new
takes_number place old now new digits begin first = taken place old now new (tokens.number digits) begin first ∙ rw (begin.1) refl

pub takes_boolean : (place : Place) (old now new : List ℕ) (b : Bool) → MayBegin place old now → StandsFirst now (tokens.boolean b) new → tokens_left place old ≡ tokens.boolean b ∷ tokens_left AfterValue new
takes_boolean place old now new b begin first = taken place old now new (tokens.boolean b) begin first ∙ rw (begin.1) refl

-- a text, with spaces behind it, and no colon
pub takes_string : (place : Place) (old now rest new text : List ℕ) → MayBegin place old now → StandsFirst now (tokens.string text) rest
    → lex between new ≡ lex between rest → begins_colon (lex between new) ≡ false → tokens_left place old ≡ tokens.string text ∷ tokens_left AfterValue new
takes_string place old now rest new text begin first same alone =
    taken place old now new (tokens.string text) begin (first ∙ ap (λ ls. token (tokens.string text) ∷ ls) (sym same)) ∙ rw (alone, begin.1) refl

behind_key : (ls : List Lexeme) → punctuate spec.after_key (colon ∷ ls) ≡ punctuate spec.fresh ls
unfolding punctuate
behind_key ls = refl

-- a text, with spaces and a colon behind it
pub takes_key : (place : Place) (old now rest spaced new text : List ℕ) → MayBegin place old now → StandsFirst now (tokens.string text) rest
    → lex between spaced ≡ lex between rest → lex between spaced ≡ colon ∷ lex between new → read_key (tokens_left place old) ≡ Some (Some text, tokens_left Fresh new)
takes_key place old now rest spaced new text begin first same named =
    let whole : tokens_left place old ≡ tokens.key text ∷ tokens_left Fresh new =
    taken place old now spaced (tokens.string text) begin (first ∙ ap (λ ls. token (tokens.string text) ∷ ls) (sym same)) ∙ rw (named, begin.1) (ap (λ ts. tokens.key text ∷ ts) (behind_key (lex between new))) in
    ap read_key whole

-- ---- brackets that close

pub takes_end_array : (place : Place) (old now new : List ℕ) → lex between now ≡ lex between old → StandsFirst now tokens.end_array new → after_end_array (tokens_left place old) ≡ Some (tokens_left AfterValue new)
takes_end_array Fresh old now new same first = ap after_end_array (ap (punctuate spec.fresh) (sym same ∙ first) ∙ token_placed spec.fresh tokens.end_array (lex between new))
takes_end_array AfterValue old now new same first = ap after_end_array (ap (punctuate spec.after_value) (sym same ∙ first) ∙ token_placed spec.after_value tokens.end_array (lex between new))

pub takes_end_object : (place : Place) (old now new : List ℕ) → lex between now ≡ lex between old → StandsFirst now tokens.end_object new → read_key (tokens_left place old) ≡ Some (None, tokens_left AfterValue new)
takes_end_object Fresh old now new same first = ap read_key (ap (punctuate spec.fresh) (sym same ∙ first) ∙ token_placed spec.fresh tokens.end_object (lex between new))
takes_end_object AfterValue old now new same first = ap read_key (ap (punctuate spec.after_value) (sym same ∙ first) ∙ token_placed spec.after_value tokens.end_object (lex between new))

-- ---- the end

nothing_placed : (place : Place) (text : List ℕ) → lex between text ≡ [] → tokens_left place text ≡ []
unfolding punctuate
nothing_placed Fresh text none = ap (punctuate spec.fresh) none
nothing_placed AfterValue text none = ap (punctuate spec.after_value) none

pub nothing_left : (place : Place) (old now : List ℕ) → lex between now ≡ lex between old → lex between now ≡ [] → tokens_left place old ≡ []
nothing_left place old now same none = nothing_placed place old (sym same ∙ none)
