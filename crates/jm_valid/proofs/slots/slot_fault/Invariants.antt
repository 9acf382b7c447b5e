use Rattle.jm_valid.proofs.slots.slot_fault.Given as goal

abbrev pub ghosts-metered_fault : goal.ghosts-metered_fault
ghosts-metered_fault a = record { name = a.blank.name; parts = a.blank.parts }
