use Rattle.std.proofs.Common.{◌≡◌, drop}
use Rattle.jm_extract.specs.Filed.{is_made_at}
use Rattle.jm_extract.proofs.file_paths.is_made_at.Given as goal

abbrev pub invariant-loop-entry : goal.invariant-loop-entry
invariant-loop-entry l = is_made_at l.path l.dir (drop l.entry-index l.entries) ≡ is_made_at l.path l.dir l.entries
