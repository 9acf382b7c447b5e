use Rattle.std.proofs.Common.{◌≡◌, length, if◌then◌else◌}
use Rattle.std.specs.List.{list_any}
use Rattle.jm_archive.specs.Manifest.{is_named, main_lines, says}
use Rattle.jm_archive.specs.Manifest as archive
use Rattle.jm_archive.proofs.manifest.says_multi_release.Given as goal

-- the last of the lines that are left which is named says it, else the lines so far say it
abbrev pub invariant-loop-line : goal.invariant-loop-line
invariant-loop-line l =
    (if list_any (λ line. is_named line.text) (main_lines l.rest) then says (main_lines l.rest) else l.says)
    ≡ archive.says_multi_release l.manifest

abbrev pub decreases-loop-line : goal.decreases-loop-line
decreases-loop-line l = length l.rest
