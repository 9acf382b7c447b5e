use Rattle.jm_image_c.proofs.jm_image_find.Given as goal

abbrev pub ghosts-find_content-H-Ledger : goal.ghosts-find_content-H-Ledger
ghosts-find_content-H-Ledger a = record { name = a.hashes.name; parts = a.hashes.parts }

abbrev pub ghosts-find_content-R-Ledger : goal.ghosts-find_content-R-Ledger
ghosts-find_content-R-Ledger a = record { name = a.reads.name; parts = a.reads.parts }
