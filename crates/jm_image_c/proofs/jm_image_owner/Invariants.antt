use Rattle.jm_image_c.proofs.jm_image_owner.Given as goal

abbrev pub ghosts-first_owner-H-Ledger : goal.ghosts-first_owner-H-Ledger
ghosts-first_owner-H-Ledger a = record { name = a.hashes.name; parts = a.hashes.parts }

abbrev pub ghosts-first_owner-R-Ledger : goal.ghosts-first_owner-R-Ledger
ghosts-first_owner-R-Ledger a = record { name = a.reads.name; parts = a.reads.parts }
