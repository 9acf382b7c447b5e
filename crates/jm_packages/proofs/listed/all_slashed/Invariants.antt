use Rattle.std.proofs.Common.{◌≡◌, map, take}
use Rattle.jm_packages.specs.Packages.{slashed}
use Rattle.jm_packages.proofs.listed.all_slashed.Given as goal

-- what was read so far stands there with its slashes
abbrev pub invariant-loop-package_name : goal.invariant-loop-package_name
invariant-loop-package_name l = l.texts ≡ map slashed (take l.package_name-index l.packages)
