use Rattle.std.proofs.Common.{◌≡◌, length}
use Rattle.jm_archive.specs.Manifest.{main_lines}
use Rattle.jm_archive.specs.Manifest as archive
use Rattle.jm_archive.proofs.manifest.is_continued.Given as goal

-- the lines that are left continue it by more exactly where all do
abbrev pub invariant-loop-line : goal.invariant-loop-line
invariant-loop-line l = archive.is_continued (main_lines l.rest) ≡ archive.is_continued (main_lines l.fn.bytes)

abbrev pub decreases-loop-line : goal.decreases-loop-line
decreases-loop-line l = length l.rest
