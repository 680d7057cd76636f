use Rattle.std.proofs.Common.{◌∙◌, sym, subst}
use Rattle.script_tokens.specs.Spelled.{SpellsUpTo}
use Rattle.script_tokens.proofs.StringLemmas.{spelled_on, spelled_to_quote}
use Rattle.script_tokens.proofs.byte_texts.long_text.Goals as goal

pub loop-bytes-preserved : goal.loop-bytes-preserved
loop-bytes-preserved c =
    let d = c.args.text.now in
    let l = c.loop-bytes in
    let part = c.in_ok-at.ensures.part in
    record {
      within = c.in_ok-at.ensures.on.1;
      spelled = subst (λ all. SpellsUpTo d c.args.start all c.in_ok-at.at) (sym part.1) (spelled_on d l.bytes.items part.0 c.args.start l.at c.in_ok-at.at l.invariant.spelled part.2);
    }

pub returns : goal.returns
returns c =
    let l = c.loop-bytes in
    rw c.from.ensures (spelled_to_quote c.args.text.now l.bytes.items c.args.start l.at l.invariant.spelled (sym c.byte_at.ensures.value ∙ c.loop-bytes-test.false))
