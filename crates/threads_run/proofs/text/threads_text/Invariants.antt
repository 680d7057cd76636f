use Rattle.threads_run.proofs.text.threads_text.Given as goal

abbrev pub ghosts-threads_text_by_ledger : goal.ghosts-threads_text_by_ledger
ghosts-threads_text_by_ledger g a = record { cells = a.blank }
