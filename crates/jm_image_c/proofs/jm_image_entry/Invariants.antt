use Rattle.jm_image_c.proofs.jm_image_entry.Given as goal

abbrev pub ghosts-entry_in_slot : goal.ghosts-entry_in_slot
ghosts-entry_in_slot a = record { name = a.reads.name; parts = a.reads.parts }
