use Rattle.turns_run.proofs.event_lines.carry_out_event.Goals as goal

pub returns-clause-text : goal.returns-clause-text
returns-clause-text c = c.in_ok-text.ensures _ _ (c.in_ok-carry_out.ensures.text.more _ _ c.take_page-page.ensures)
