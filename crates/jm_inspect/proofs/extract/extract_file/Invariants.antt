use Rattle.jm_inspect.proofs.extract.extract_file.Given as goal

abbrev pub ghosts-extract_counted : goal.ghosts-extract_counted
ghosts-extract_counted g a = record { name = a.reads.name; parts = a.reads.parts }
