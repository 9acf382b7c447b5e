-- Packages that the code holds by the paths of folders (this project's rule).
use Rattle.std.specs.Prelude.{ℕ, List}
use Rattle.std.specs.Cmp.Lexicographic.{slice_cmp}
use Rattle.std.specs.Ordering.{nat_cmp, on}
use Rattle.std.specs.declared.cmp.Ordering.{Ordering}
use Rattle.jm_names.specs.Names.{dotted}
use Rattle.jm_nodes.specs.declared.package_path.PackagePath.{PackagePath}

-- what the package of a folder is called
abbrev pub called_of : PackagePath → List ℕ
called_of folder = dotted folder.path.now

-- the order in which packages rise
abbrev pub package_cmp : PackagePath → PackagePath → Ordering
package_cmp = on called_of (slice_cmp nat_cmp)
