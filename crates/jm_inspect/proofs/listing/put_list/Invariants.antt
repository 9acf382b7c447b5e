use Rattle.jm_inspect.proofs.listing.put_list.Given as goal

abbrev pub ghosts-put_taken : goal.ghosts-put_taken
ghosts-put_taken g a = record { name = a.reads.name; parts = a.reads.parts }
