use Rattle.scripts.proofs.words.print_list.Goals as goal

pub returns : goal.returns
returns g c = c.in_ok-text.ensures _ _ (c.push_list.ensures.more _ _ c.take_page-page.ensures)
