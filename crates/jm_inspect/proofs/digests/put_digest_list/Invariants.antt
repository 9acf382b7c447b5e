use Rattle.jm_inspect.proofs.digests.put_digest_list.Given as goal

abbrev pub ghosts-taken_counted : goal.ghosts-taken_counted
ghosts-taken_counted g a = record { name = a.reads.name; parts = a.reads.parts }
