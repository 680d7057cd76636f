use Rattle.scripts.proofs.line_pieces.print_refused.Goals as goal

pub returns : goal.returns
returns c = c.in_ok-text.ensures _ _ (c.push_refused.ensures.more _ _ c.take_page-page.ensures)
