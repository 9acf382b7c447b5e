-- The packages in which files of a module are classes (this project's rule).
use Rattle.std.specs.Prelude.{ℕ, List, map}
use Rattle.std.specs.List.{filter_map}
use Rattle.jm_form.specs.ModuleFiles.{class_package}
use Rattle.jm_form.specs.Rising.{rising}
use Rattle.jm_names.specs.ByName.{Named}

-- the packages in which files are classes, rising
abbrev pub packages_of : List Named → List (List ℕ)
packages_of files = rising (filter_map class_package (map (λ f. f.0) files))
