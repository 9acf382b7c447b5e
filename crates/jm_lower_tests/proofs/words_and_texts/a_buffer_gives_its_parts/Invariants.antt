use Rattle.jm_lower_tests.proofs.words_and_texts.a_buffer_gives_its_parts.Given as goal

abbrev pub ghosts-parts_of : goal.ghosts-parts_of
ghosts-parts_of g a = record { name = a.blank.name; parts = a.blank.parts }
