use Rattle.jm_inspect.proofs.serve.serve_file.Given as goal

abbrev pub ghosts-serve_counted-H-Ledger : goal.ghosts-serve_counted-H-Ledger
ghosts-serve_counted-H-Ledger g a = record { name = a.blanks.hashes.name; parts = a.blanks.hashes.parts }

abbrev pub ghosts-serve_counted-R-Ledger : goal.ghosts-serve_counted-R-Ledger
ghosts-serve_counted-R-Ledger g a = record { name = a.blanks.reads.name; parts = a.blanks.reads.parts }
