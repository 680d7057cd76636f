-- The next of the keys has the bytes, so they are among these.
use Rattle.std.proofs.Common.{◌∙◌, sym}
use Rattle.std.specs.Cmp.Lexicographic.{same_text}
use Rattle.metadata.proofs.KeySets.{listed_first}
use Rattle.metadata.proofs.key_set.next_key_is.Goals as goal

pub returns-in-Some-clause-found : goal.returns-in-Some-clause-found
returns-in-Some-clause-found c = λ made.
    listed_first c.in-Some.next.now c.next.new.self c.args.keys.now c.args.key.now c.in-Some.ensures.steps
    (same_text c.in-Some.next.now c.args.key.now (sym made ∙ c.eq.ensures))
