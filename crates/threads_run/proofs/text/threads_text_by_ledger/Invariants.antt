use Rattle.threads_run.proofs.text.threads_text_by_ledger.Given as goal

abbrev pub ghosts-run_over_inboxes : goal.ghosts-run_over_inboxes
ghosts-run_over_inboxes g a = record { places = a.blank }
