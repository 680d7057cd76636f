use Rattle.std.proofs.Common.{◌≡◌, ◌∙◌, ◌-◌, ◌≤◌, ◌++◌, ◌∷◌, [], length, take, drop, ap, subst, rules}
use Rattle.std.proofs.lemmas.List.{take_rest}
use Rattle.system_keys.specs.Text.{ArePlain}
use Rattle.script_tokens.proofs.StringLemmas.{escape_spelled, front_spelled}
use Rattle.script_tokens.proofs.byte_texts.push_part.Goals as goal

pub returns-in_ok-ok-clause-part : goal.returns-in_ok-ok-clause-part
returns-in_ok-ok-clause-part c =
    let d = c.args.text.now in
    let at = c.args.at in
    let old = c.args.bytes.now.items in
    let count = c.plain_front_length-count.result in
    let given = take (length d - at) (drop at d) in
    let rest : given ≡ drop at d = take_rest d at in
    let pushed : c.extend_from_slice.new.self.items ≡ old ++ take count given = search rules in
    let within : count ≤ length (drop at d) = subst (λ t. count ≤ length t) rest c.plain_front_length-count.ensures.within in
    let plain : ArePlain (drop at d) 0 count = subst (λ t. ArePlain t 0 count) rest c.plain_front_length-count.ensures.plain in
    (take count (drop at d), pushed ∙ ap (λ t. old ++ take count t) rest, front_spelled d at count within plain)

pub returns-in_ok-ok-2-clause-part : goal.returns-in_ok-ok-2-clause-part
returns-in_ok-ok-2-clause-part c =
    let byte = c.in_ok-escaped_byte.field-0 in
    let pushed : c.push.new.self.items ≡ c.args.bytes.now.items ++ byte ∷ [] = search rules in
    (byte ∷ [], pushed, escape_spelled c.args.text.now c.args.at byte c.in_ok-escaped_byte.ensures.within c.in_ok-escaped_byte.ensures.escape)
