use Rattle.ml_run.proofs.runs.run_item.Given as goal

abbrev pub ghosts-run_held : goal.ghosts-run_held
ghosts-run_held g a = record { item = a.item }
