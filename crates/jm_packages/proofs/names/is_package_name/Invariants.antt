use Rattle.std.proofs.Common.{◌≡◌, length}
use Rattle.jm_packages.specs.PackageNames.{is_package_name}
use Rattle.jm_packages.proofs.names.is_package_name.Given as goal

-- what is left is the name of a package exactly where the whole is one
abbrev pub invariant-loop-part : goal.invariant-loop-part
invariant-loop-part l = is_package_name l.rest ≡ is_package_name l.name

abbrev pub decreases-loop-part : goal.decreases-loop-part
decreases-loop-part l = length l.rest
