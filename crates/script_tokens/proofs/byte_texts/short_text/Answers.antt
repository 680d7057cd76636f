use Rattle.std.proofs.Common.{◌∙◌, take, sym, subst}
use Rattle.script_tokens.specs.Spelled.{SpellsUpTo}
use Rattle.script_tokens.proofs.StringLemmas.{spelled_on, spelled_to_quote}
use Rattle.script_tokens.proofs.byte_texts.short_text.Goals as goal

pub loop-start-preserved : goal.loop-start-preserved
loop-start-preserved c =
    let d = c.args.text.now in
    let l = c.loop-start in
    let part = c.in_ok-next.ensures.part in
    record {
      within = c.in_ok-next.ensures.on.1;
      room = c.in_ok-next.ensures.within;
      spelled = subst (λ all. SpellsUpTo d c.args.start all c.in_ok-next.next) (sym part.1) (spelled_on d (take l.count l.room) part.0 c.args.start l.at c.in_ok-next.next l.invariant.spelled part.2);
    }

pub returns-clause-spelled : goal.returns-clause-spelled
returns-clause-spelled c =
    let l = c.loop-start in
    spelled_to_quote c.args.text.now (take l.count l.room) c.args.start l.at l.invariant.spelled (sym c.byte_at.ensures.value ∙ c.loop-start-test.false)
