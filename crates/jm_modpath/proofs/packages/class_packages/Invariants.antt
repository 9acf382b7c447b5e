use Rattle.std.proofs.Common.{◌≡◌, take}
use Rattle.std.specs.List.{filter_map}
use Rattle.jm_form.specs.ModuleFiles.{named_package}
use Rattle.jm_form.specs.Rising.{items_of}
use Rattle.jm_modpath.specs.Modules.{resource_name}
use Rattle.jm_modpath.proofs.packages.class_packages.Given as goal

abbrev pub invariant-loop-path : goal.invariant-loop-path
invariant-loop-path l =
    items_of l.packages.items ≡ filter_map (λ path. named_package (resource_name l.module path)) (take l.path-index l.paths)
