use Rattle.jm_commands.proofs.decompress.decompress_command.Given as goal

abbrev pub ghosts-decompress_counted : goal.ghosts-decompress_counted
ghosts-decompress_counted g a = record { name = a.reads.name; parts = a.reads.parts }
