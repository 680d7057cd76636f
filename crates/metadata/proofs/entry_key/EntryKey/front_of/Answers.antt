-- The front of a key is of its class, and not above it.
use Rattle.std.proofs.Common.{◌≡◌, ◌∙◌, ap, sym, take, ℕ}
use Rattle.std.proofs.lemmas.List.{take_min}
use Rattle.system_keys.specs.Keys.{Key, is_key_below}
use Rattle.metadata.specs.EntryKeys.{class_of, whole_key}
use Rattle.metadata.proofs.EntryKeys.{front_class, front_up_to}
use Rattle.metadata.proofs.entry_key.EntryKey.front_of.Goals as goal

-- the bytes that are kept
front : (c : goal.After-unwrap-rest) → c.unwrap-rest.result ≡ take 15 c.parts_of-class.result.1.now
front c = (rw c.unwrap-rest.ensures at c.new.ensures.key) ∙ ap (λ (count : ℕ). take count c.parts_of-class.result.1.now) c.min-count.ensures ∙ take_min 15 c.parts_of-class.result.1.now

pub invariant_of-result : goal.invariant_of-result
invariant_of-result c =
    ap (λ (rest : Key). class_of (whole_key c.parts_of-class.result.0 rest)) (front c)
    ∙ front_class c.parts_of-class.result.0 c.parts_of-class.result.1.now (ap class_of c.parts_of-class.ensures.rest ∙ sym c.parts_of-class.ensures.class)

pub returns-clause-up_to : goal.returns-clause-up_to
returns-clause-up_to c =
    ap (λ (key : Key). is_key_below key (whole_key c.parts_of-class.result.0 c.unwrap-rest.result)) (sym c.parts_of-class.ensures.rest)
    ∙ ap (λ (rest : Key). is_key_below (whole_key c.parts_of-class.result.0 c.parts_of-class.result.1.now) (whole_key c.parts_of-class.result.0 rest)) (front c)
    ∙ front_up_to c.parts_of-class.result.0 c.parts_of-class.result.1.now
