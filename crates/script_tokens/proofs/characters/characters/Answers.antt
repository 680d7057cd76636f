use Rattle.std.proofs.Common.{◌≡◌, ◌∙◌, ◌∷◌, [], ◌++◌, sym, subst, rules}
use Rattle.script_tokens.specs.Spelled.{StandsUpTo}
use Rattle.script_tokens.proofs.EscapeLemmas.{stands_on, stands_to_quote}
use Rattle.script_tokens.proofs.characters.characters.Goals as goal

pub loop-found-preserved : goal.loop-found-preserved
loop-found-preserved c =
    let d = c.args.text.now in
    let l = c.loop-found in
    let byte = c.in_ok-character.character in
    let next = c.in_ok-character.next in
    let pushed : c.push.new.self.items ≡ l.found.items ++ byte ∷ [] = search rules in
    record {
      within = c.in_ok-character.ensures.on.1;
      stands = subst (λ all. StandsUpTo d c.args.start all next) (sym pushed) (stands_on d l.found.items (byte ∷ []) c.args.start l.at next l.invariant.stands c.in_ok-character.ensures.stands);
    }

pub returns : goal.returns
returns c =
    let l = c.loop-found in
    stands_to_quote c.args.text.now l.found.items c.args.start l.at l.invariant.stands (sym c.byte_at.ensures.value ∙ c.loop-found-test.false)
