use Rattle.jm_call_cases.proofs.names.hash_of.Given as goal

abbrev pub ghosts-counted_hash : goal.ghosts-counted_hash
ghosts-counted_hash a = record { name = a.blank.name; parts = a.blank.parts }
