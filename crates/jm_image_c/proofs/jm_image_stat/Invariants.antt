use Rattle.jm_image_c.proofs.jm_image_stat.Given as goal

abbrev pub ghosts-standing-H-Ledger : goal.ghosts-standing-H-Ledger
ghosts-standing-H-Ledger a = record { name = a.hashes.name; parts = a.hashes.parts }

abbrev pub ghosts-standing-R-Ledger : goal.ghosts-standing-R-Ledger
ghosts-standing-R-Ledger a = record { name = a.reads.name; parts = a.reads.parts }
