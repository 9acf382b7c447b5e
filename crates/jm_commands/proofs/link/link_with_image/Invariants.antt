use Rattle.jm_commands.proofs.link.link_with_image.Given as goal

abbrev pub ghosts-ordered_by : goal.ghosts-ordered_by
ghosts-ordered_by g a = record { name = a.reads.name; parts = a.reads.parts }

abbrev pub ghosts-link_counted : goal.ghosts-link_counted
ghosts-link_counted g a = record { name = a.reads.name; parts = a.reads.parts }
