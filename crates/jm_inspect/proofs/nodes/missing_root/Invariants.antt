use Rattle.jm_inspect.proofs.nodes.missing_root.Given as goal

abbrev pub ghosts-find_counted-H-Ledger : goal.ghosts-find_counted-H-Ledger
ghosts-find_counted-H-Ledger a = record { name = a.blanks.hashes.name; parts = a.blanks.hashes.parts }

abbrev pub ghosts-find_counted-R-Ledger : goal.ghosts-find_counted-R-Ledger
ghosts-find_counted-R-Ledger a = record { name = a.blanks.reads.name; parts = a.blanks.reads.parts }
