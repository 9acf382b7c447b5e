use Rattle.jm_inspect.proofs.nodes.judge.Given as goal

abbrev pub ghosts-judge_image : goal.ghosts-judge_image
ghosts-judge_image g a = record { name = a.reads.name; parts = a.reads.parts }
