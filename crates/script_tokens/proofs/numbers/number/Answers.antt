use Rattle.std.proofs.Common.{◌≡◌, ◌∙◌, ◌+◌, ◌<◌, ◌^◌, drop, take, sym, ap, subst, arith}
use Rattle.std.specs.Prelude.{Some}
use Rattle.std.specs.Str.Parse.{digits_value}
use Rattle.std.proofs.lemmas.List.{drop-drop, take_rest}
use Rattle.json.specs.Token as tokens
use Rattle.serde_json.specs.Data.{unsigned}
use Rattle.serde_json.specs.Read.{number_of}
use Rattle.script_tokens.specs.LeftTokens.{StandsFirst}
use Rattle.script_tokens.proofs.LexLemmas.{ends}
use Rattle.script_tokens.proofs.NumberLemmas.{IsDigitsFirst, number_first, number_value}
use Rattle.script_tokens.proofs.numbers.number.Goals as goal

pub returns-then-ends_word : goal.returns-then-ends_word
returns-then-ends_word c =
    let d = c.args.text.now in
    let t = c.in_ok-rest.rest.now in
    let start = c.args.start in
    let n = c.front_number-number.result.1 in
    let front = c.front_number-number.ensures in
    let plain = c.has_plain_digits.ensures in
    let first : IsDigitsFirst t n = record {
      within = front.within;
      some = plain.some c.if-has_plain_digits.true;
      digits = front.digits;
      no_zero = λ is. plain.no_zero c.if-has_plain_digits.true (c.byte_at.ensures.value ∙ is);
      ended = ap ends (sym c.byte_at-then-has_plain_digits.ensures.value) ∙ sym c.ends_word.ensures ∙ c.if-ends_word.true;
    } in
    let rest : t ≡ drop start d = c.in_ok-rest.ensures.lookup.0.2 ∙ take_rest d start in
    let small : digits_value 10 (take n t) < 10 ^ 19 = omega (arith, front.value, front.small) in
    let behind : drop n t ≡ drop (start + n) d = ap (drop n) rest ∙ drop-drop n start d in
    let value : number_of (take n t) ≡ Some (unsigned c.front_number-number.result.0) = number_value t n first small ∙ ap (λ v. Some (unsigned v)) (sym front.value) in
    let whole = subst (λ s. StandsFirst s (tokens.number (take n t)) (drop n t)) rest (number_first t n first) in
    (take n t, subst (StandsFirst (drop start d) (tokens.number (take n t))) behind whole, value)
