use Rattle.std.proofs.Common.{◌≡◌, ◌+◌, ◌-◌, ◌*◌, ◌++◌, drop, length}
use Rattle.jm_class.specs.Views.{pool_of}
use Rattle.jm_modinfo.specs.Written.{numbers_text}
use Rattle.jm_packages.specs.Packages.{package_slots}
use Rattle.jm_packages.proofs.constants.push_packages.Given as goal

abbrev pub invariant-loop-package : goal.invariant-loop-package
invariant-loop-package l =
    (l.rest ≡ numbers_text (length l.fn.pool + 1 + 2 * l.package-index) (length l.packages - l.package-index))
    × (pool_of l.pool ++ package_slots (length l.fn.pool + 1 + 2 * l.package-index) (drop l.package-index l.packages)
    ≡ pool_of l.fn.pool ++ package_slots (length l.fn.pool + 1) l.packages)
